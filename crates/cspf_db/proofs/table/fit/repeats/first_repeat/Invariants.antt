use Rattle.std.proofs.Common.{ℕ, ◌<◌}
use Rattle.cspf_model.specs.Lemmas.RepeatedKeys.{IsNewAt}
use Rattle.cspf_db.proofs.table.fit.repeats.first_repeat.Given as goal

abbrev pub invariant-loop-at : goal.invariant-loop-at
invariant-loop-at l = (k : ℕ) → k < l.at → IsNewAt l.changes k
