use Rattle.std.proofs.Common.{◌≡◌, ◌<◌, inl, inr, length, sym, ap, ◌∙◌, arith}
use Rattle.std.proofs.lemmas.List.{get_or_read}
use Rattle.cspf_meet.specs.Labels.{rank_at}
use Rattle.cspf_meet.proofs.Waiting.{keys_left, same_key}
use Rattle.cspf_meet.proofs.labels.Labels.next.Goals as goal

pub returns-then-index-rank-clause-next : goal.returns-then-index-rank-clause-next
returns-then-index-rank-clause-next c =
    let ranks = c.loop-key.self.ranks.items in
    let place = c.place_in-place.result in
    let within : c.from.result < length c.loop-key.self.ranks.items = omega (arith, c.from.ensures, c.place_in-place.ensures.small, c.loop-key.self.many) in
    let read : rank_at c.loop-key.self.ranks.items c.from.result ≡ c.index.result.now = sym (get_or_read ranks c.from.result c.index.result.now within c.index.ensures 0) in
    let same : rank_at c.args.self.now.ranks.items c.from.result ≡ rank_at c.loop-key.self.ranks.items c.from.result = ap (λ rs. rank_at rs.items c.from.result) (sym c.loop-key.invariant.ranks) in
    record {
      within = c.place_in-place.ensures.small;
      same = ap (rank_at c.args.self.now.ranks.items) (sym c.from.ensures) ∙ same ∙ read ∙ c.if-index-rank.true;
      small = c.rank_in-rank.ensures.small;
      left = λ v low waits.
          elim (c.loop-key.invariant.left v low waits) [
            | inl key ↦ elim (keys_left _ _ _ c.in-Some.ensures.permutation _ key) [
              | inl is ↦ inl (omega (arith, (same_key _ _ v is low).0, c.place_in-place.ensures.value))
              | inr there ↦ inr (inl there)
            ]
            | inr skipped ↦ inr (inr skipped)
          ];
    }

pub loop-key-preserved : goal.loop-key-preserved
loop-key-preserved c =
    let ranks = c.loop-key.self.ranks.items in
    let within : c.from.result < length c.loop-key.self.ranks.items = omega (arith, c.from.ensures, c.place_in-place.ensures.small, c.loop-key.self.many) in
    let read : rank_at c.loop-key.self.ranks.items c.from.result ≡ c.index.result.now = sym (get_or_read ranks c.from.result c.index.result.now within c.index.ensures 0) in
    record {
      ranks = c.loop-key.invariant.ranks;
      left = λ v low waits.
          elim (c.loop-key.invariant.left v low waits) [
            | inl key ↦ elim (keys_left _ _ _ c.in-Some.ensures.permutation _ key) [
              | inl is ↦
                  let parts = same_key _ _ v is low in
                  let here : c.from.result ≡ v = omega (arith, parts.0, c.place_in-place.ensures.value, c.from.ensures) in
                  absurd (c.if-index-rank.false (omega (arith, read, ap (rank_at c.loop-key.self.ranks.items) here, parts.1, c.rank_in-rank.ensures.value)))
              | inr there ↦ inl there
            ]
            | inr skipped ↦ inr skipped
          ];
    }

pub returns-clause-none : goal.returns-clause-none
returns-clause-none c v low waits =
    elim (c.loop-key.invariant.left v low waits) [
      | inl key ↦ inl (rw c.in_default.ensures.unchanged.0 key)
      | inr skipped ↦ inr skipped
    ]
