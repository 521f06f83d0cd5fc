use Rattle.std.proofs.Common.{◌≡◌, ◌++◌, List, take}
use Rattle.cspf_book.specs.declared.placement.Placement.{Placement}
use Rattle.cspf_book.specs.Kept.{IsCountOf}
use Rattle.cspf_book.proofs.ListedPuts.{puts_of}
use Rattle.cspf_book.proofs.leading.list_puts.Given as goal

abbrev pub invariant-loop-link : goal.invariant-loop-link
invariant-loop-link l =
    (placements : List Placement) → IsCountOf l.counts placements
    → l.list.items ≡ l.initial.list.items ++ puts_of l.base placements l.listed (take l.link-index l.links)
