use Rattle.std.proofs.Common.{◌≡◌, ◌++◌, List}
use Rattle.cspf_book.specs.declared.placement.Placement.{Placement}
use Rattle.cspf_book.specs.Kept.{IsCountOf}
use Rattle.cspf_book.specs.OverLinks.{is_made_over}
use Rattle.cspf_book.proofs.OverLists.{entries_up_to}
use Rattle.cspf_book.proofs.over.list_made_over.Given as goal

abbrev pub invariant-loop-priority : goal.invariant-loop-priority
invariant-loop-priority l =
    (placements : List Placement) → IsCountOf l.counts placements
    → l.list.items ≡ l.initial.list.items ++ entries_up_to (is_made_over placements l.placement l.link) l.link l.priority
