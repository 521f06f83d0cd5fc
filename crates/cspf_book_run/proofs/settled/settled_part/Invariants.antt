use Rattle.std.proofs.Common.{length}
use Rattle.cspf_book_run.proofs.SettledParts.{IsCutInto}
use Rattle.cspf_book_run.proofs.settled.settled_part.Given as goal

abbrev pub invariant-loop-size : goal.invariant-loop-size
invariant-loop-size l = IsCutInto l.text l.rest l.at l.settled

abbrev pub decreases-loop-size : goal.decreases-loop-size
decreases-loop-size l = length l.rest
