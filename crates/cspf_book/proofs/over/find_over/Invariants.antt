use Rattle.std.proofs.Common.{◌≡◌, List, take}
use Rattle.cspf_book.specs.declared.placement.Placement.{Placement}
use Rattle.cspf_book.specs.OverLinks.{over}
use Rattle.cspf_book.specs.Kept.{IsCountOf}
use Rattle.cspf_book.proofs.over.find_over.Given as goal

abbrev pub invariant-loop-change : goal.invariant-loop-change
invariant-loop-change l =
    (placements : List Placement) → IsCountOf l.counts placements
    → l.list.items ≡ over placements (take l.change-index l.changes)
