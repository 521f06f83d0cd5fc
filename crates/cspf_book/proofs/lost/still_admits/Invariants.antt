use Rattle.cspf_model.specs.Changes.{after_changes}
use Rattle.cspf_book.proofs.UntouchedRoutes.{IsFollowedUpTo}
use Rattle.cspf_book.proofs.lost.still_admits.Given as goal

abbrev pub invariant-loop-i : goal.invariant-loop-i
invariant-loop-i l = IsFollowedUpTo l.base (after_changes l.base l.changes) l.placement l.i l.router
