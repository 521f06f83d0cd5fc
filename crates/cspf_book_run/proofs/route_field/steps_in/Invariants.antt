use Rattle.std.proofs.Common.{◌≡◌, ◌++◌, ◌%◌, length}
use Rattle.cspf_book_run.specs.RouteText.{steps_in}
use Rattle.cspf_book_run.proofs.route_field.steps_in.Given as goal

abbrev pub decreases-loop-rest : goal.decreases-loop-rest
decreases-loop-rest l = length l.rest

-- the steps that are read so far, followed by those of the remaining bytes, are the steps of all
-- bytes
abbrev pub invariant-loop-rest : goal.invariant-loop-rest
invariant-loop-rest l = (l.steps.items ++ steps_in l.rest ≡ steps_in l.bytes) × (length l.rest % 8 ≡ 0)
