use Rattle.std.proofs.Common.{◌≡◌, ◌+◌, ◌<◌, inl, inr, length, sym, ap, ◌∙◌, arith}
use Rattle.std.proofs.lemmas.List.{get_or_read}
use Rattle.cspf_meet.specs.Labels.{rank_at}
use Rattle.cspf_meet.proofs.Guiding.{far_passed, guided_left, guided_on}
use Rattle.cspf_meet.proofs.Waiting.{key_place, key_rank}
use Rattle.cspf_meet.proofs.guide.turn.Goals as goal
use Rattle.cspf_meet.proofs.guide.turn.Goals.{then-index-rank-via-then-index-rank, then-index-rank-via-else-index-rank+then-place-routers}

pub returns-in_default : goal.returns-in_default
returns-in_default g c =
    let bound = g.B.LowerBounds.bound_of c.args.bounds.now in
    record {
      guided = guided_left c.args.query.table.now c.args.query.request.now bound c.args.guided.now c.take.new.self c.take.ensures.ranks c.take.ensures.most (λ v low waits. inr (c.in_default.ensures.none bound v waits)) c.requires.guided;
      most = omega (arith, c.take.ensures.most);
    }

pub returns-then-over-guided : goal.returns-then-over-guided
returns-then-over-guided g c =
    let d = c.args.query.table.now in
    let q = c.args.query.request.now in
    let bound = g.B.LowerBounds.bound_of c.args.bounds.now in
    let old = c.args.guided.now in
    record {
      guided = guided_left d q bound old c.take.new.self c.take.ensures.ranks c.take.ensures.most
          (λ v low waits. elim (c.in-Some.ensures.left bound v waits) [
            | inl is ↦
                let rank = key_rank (rank_at old.ranks.items v + bound v) v low in
                inl (far_passed d q bound c.requires.bounds old.ranks.items old.most (rank_at old.ranks.items v) v (omega (arith, is, rank, c.rank_in-over.ensures.value, c.if-over-guided.true, c.take.ensures.most)))
            | inr still ↦ inr still
          ])
          c.requires.guided;
      most = omega (arith, c.take.ensures.most);
    }

pub returns-then-index-rank : goal.returns-then-index-rank
returns-then-index-rank g c =
    let d = c.args.query.table.now in
    let q = c.args.query.request.now in
    let bound = g.B.LowerBounds.bound_of c.args.bounds.now in
    let old = c.args.guided.now in
    let place = c.from-place.result in
    let within : c.from-place.result < length c.take.new.self.ranks.items = omega (arith, c.from-place.ensures, c.place_in.ensures.small, c.take.new.self.many) in
    let read : rank_at c.take.new.self.ranks.items c.from-place.result ≡ c.index.result.now = sym (get_or_read c.take.new.self.ranks.items place c.index.result.now within c.index.ensures 0) in
    let was : rank_at c.take.new.self.ranks.items c.from-place.result ≡ rank_at c.args.guided.now.ranks.items c.from-place.result = ap (λ rs. rank_at rs.items place) c.take.ensures.ranks in
    record {
      guided = guided_left d q bound old c.take.new.self c.take.ensures.ranks c.take.ensures.most
          (λ v low waits. elim (c.in-Some.ensures.left bound v waits) [
            | inl is ↦
                let parts = key_place (rank_at old.ranks.items v + bound v) v low in
                let rank = key_rank (rank_at old.ranks.items v + bound v) v low in
                let here : c.from-place.result ≡ v = omega (arith, is, parts, c.place_in.ensures.value, c.from-place.ensures) in
                elim c.then-index-rank.branch [
                  | then-index-rank-via-then-index-rank w ↦
                      absurd (w.if-index-rank.true (omega (arith, is, rank, c.rank_in-over.ensures.value, c.saturating_sub-rank.ensures, c.bound.ensures.value, ap bound here, ap (rank_at old.ranks.items) here, read, was)))
                  | then-index-rank-via-else-index-rank+then-place-routers w ↦
                      inl (λ x step leads. absurd (omega (arith, leads.from.within, here, w.if-place-routers.true, ap length w.routers.ensures.all)))
                ]
            | inr still ↦ inr still
          ])
          c.requires.guided;
      most = omega (arith, c.take.ensures.most);
    }

pub returns : goal.returns
returns g c =
    let d = c.args.query.table.now in
    let q = c.args.query.request.now in
    let bound = g.B.LowerBounds.bound_of c.args.bounds.now in
    let old = c.args.guided.now in
    let place = c.from-place.result in
    let within : c.from-place.result < length c.take.new.self.ranks.items = omega (arith, c.from-place.ensures, c.place_in.ensures.small, c.take.new.self.many) in
    let read : rank_at c.take.new.self.ranks.items c.from-place.result ≡ c.index.result.now = sym (get_or_read c.take.new.self.ranks.items place c.index.result.now within c.index.ensures 0) in
    let was : rank_at c.take.new.self.ranks.items c.from-place.result ≡ rank_at c.args.guided.now.ranks.items c.from-place.result = ap (λ rs. rank_at rs.items place) c.take.ensures.ranks in
    record {
      guided = guided_on d q bound old c.take.new.self c.look.new.guided place c.saturating_sub-rank.result c.take.ensures.ranks c.take.ensures.most
          (λ v low waits. elim (c.in-Some.ensures.left bound v waits) [
            | inl is ↦
                let parts = key_place (rank_at old.ranks.items v + bound v) v low in
                inl (omega (arith, is, parts, c.place_in.ensures.value, c.from-place.ensures))
            | inr still ↦ inr still
          ])
          (sym was ∙ read ∙ c.if-index-rank.false) c.in_ok-look.ensures.falls c.in_ok-look.ensures.passed c.requires.guided;
      most = omega (arith, c.in_ok-look.ensures.falls.most, c.take.ensures.most);
    }
