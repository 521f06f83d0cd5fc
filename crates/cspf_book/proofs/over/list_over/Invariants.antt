use Rattle.std.proofs.Common.{◌≡◌, ◌++◌, List}
use Rattle.cspf_book.specs.declared.placement.Placement.{Placement}
use Rattle.cspf_book.specs.Kept.{IsCountOf}
use Rattle.cspf_book.proofs.OverLists.{over_up_to}
use Rattle.cspf_book.proofs.over.list_over.Given as goal

abbrev pub invariant-loop-priority : goal.invariant-loop-priority
invariant-loop-priority l =
    (placements : List Placement) → IsCountOf l.counts placements
    → l.list.items ≡ l.initial.list.items ++ over_up_to placements l.link l.priority
