use Rattle.std.proofs.Common.{inl, inr, ap}
use Rattle.std.specs.declared.cmp.Reverse.{Reverse}
use Rattle.std.proofs.Common.{ℕ}
use Rattle.cspf_meet.proofs.Waiting.{keys_left}
use Rattle.cspf_meet.proofs.guided.Guided.take.Goals as goal

pub returns-in-Some-pop-clause-left : goal.returns-in-Some-pop-clause-left
returns-in-Some-pop-clause-left c bounds v waits =
    elim waits [
      | inl there ↦ elim (keys_left _ _ _ c.in-Some-pop.ensures.permutation _ there) [
        | inl is ↦ inl (ap (λ (k : Reverse ℕ). k.0) is)
        | inr still ↦ inr (inl still)
      ]
      | inr next ↦ inr (inr next)
    ]
