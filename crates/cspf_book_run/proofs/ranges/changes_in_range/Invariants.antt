use Rattle.std.proofs.Common.{take}
use Rattle.std.specs.List.{AllByRecursion}
use Rattle.cspf_rows.specs.JournalLaws.{IsChangeInRange}
use Rattle.cspf_book_run.proofs.ranges.changes_in_range.Given as goal

-- the numbers of the changes before this index are in range
abbrev pub invariant-loop-change : goal.invariant-loop-change
invariant-loop-change l = AllByRecursion IsChangeInRange (take l.change-index l.changes)
