use Rattle.std.proofs.Common.{take}
use Rattle.cspf_model.specs.Changes.{after_changes}
use Rattle.cspf_book.specs.Following.{AreRanksOfLost}
use Rattle.cspf_book.proofs.lost.list_ranks.Given as goal

abbrev pub invariant-loop-i : goal.invariant-loop-i
invariant-loop-i l =
    AreRanksOfLost l.base (after_changes l.base l.changes) (take l.i l.placements) l.ranks.items
