use Rattle.std.proofs.Common.{take}
use Rattle.std.specs.List.{AllByRecursion}
use Rattle.cspf_book_run.specs.HeldRows.{IsPlacementInRange}
use Rattle.cspf_book_run.proofs.ranges.placements_in_range.Given as goal

-- the numbers of the placements before this index are in range
abbrev pub invariant-loop-placement : goal.invariant-loop-placement
invariant-loop-placement l = AllByRecursion IsPlacementInRange (take l.placement-index l.placements)
