use Rattle.std.proofs.Common.{◌≡◌, inl, inr, ℕ, sym, ap, ◌∙◌, arith}
use Rattle.cspf_meet.specs.Guided.{IsGuidedWaiting}
use Rattle.cspf_meet.specs.Labels.{rank_at}
use Rattle.cspf_meet.specs.Looks.{LeadsBack}
use Rattle.cspf_meet.proofs.Falling.{looked_begun, looked_less}
use Rattle.cspf_meet.proofs.Guiding.{guided_begun}
use Rattle.cspf_meet.proofs.by_bounds.answer.Goals as goal

pub look_back-requires-clause-looked : goal.look_back-requires-clause-looked
look_back-requires-clause-looked g c =
    let begun = c.in_ok-back in
    looked_begun (LeadsBack c.args.query.table.now c.args.query.request.now) begun.back c.args.query.to 9007199254740992 begun.ensures.waits begun.ensures.others begun.ensures.small

pub guide-requires-clause-guided : goal.guide-requires-clause-guided
guide-requires-clause-guided g c =
    let bound = g.B.LowerBounds.bound_of c.args.bounds.now in
    let begun = c.in_ok-guided.ensures in
    let kept : (v : ℕ) → rank_at c.meet.new.self.ranks.items v ≡ rank_at c.in_ok-guided.guided.ranks.items v = λ v. ap (λ rs. rank_at rs.items v) c.meet.ensures.ranks in
    let waits : IsGuidedWaiting bound c.meet.new.self c.args.query.from = elim ((c.meet.ensures.falls bound).ranks.kept c.args.query.from) [
      | inl waits ↦ waits
      | inr same ↦ same.1 (begun.waits bound (sym c.bound.ensures.value))
    ] in
    guided_begun c.args.query.table.now c.args.query.request.now bound c.meet.new.self c.args.query.from waits (λ v low ne. kept v ∙ begun.others v low ne) (λ v. omega (arith, kept v, begun.small v))

pub guided_route-requires-clause-back : goal.guided_route-requires-clause-back
guided_route-requires-clause-back g c =
    looked_less (LeadsBack c.args.query.table.now c.args.query.request.now) c.look_back.new.back c.in_ok-most.most c.guide.new.guided.most (omega (arith, c.in_ok-guide.ensures.most, c.meet.ensures.rank)) c.in_ok-most.ensures.looked
