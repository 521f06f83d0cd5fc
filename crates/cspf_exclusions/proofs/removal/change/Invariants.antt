use Rattle.std.proofs.Common.{◌≡◌, length}
use Rattle.cspf_model.specs.Changes.{after_changes}
use Rattle.cspf_exclusions.proofs.removal.change.Given as goal

abbrev pub invariant-loop-rest : goal.invariant-loop-rest
invariant-loop-rest l = after_changes l.table l.rest ≡ after_changes l.fn.table l.all

abbrev pub decreases-loop-rest : goal.decreases-loop-rest
decreases-loop-rest l = length l.rest
