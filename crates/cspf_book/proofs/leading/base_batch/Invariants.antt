use Rattle.std.proofs.Common.{◌≡◌, List, map, take}
use Rattle.cspf_book.specs.declared.placement.Placement.{Placement}
use Rattle.cspf_book.specs.Leading.{effective_change}
use Rattle.cspf_book.specs.Kept.{IsCountOf}
use Rattle.cspf_book.proofs.leading.base_batch.Given as goal

abbrev pub invariant-loop-change : goal.invariant-loop-change
invariant-loop-change l =
    (placements : List Placement) → IsCountOf l.counts placements
    → l.made.items ≡ map (effective_change placements) (take l.change-index l.changes)
