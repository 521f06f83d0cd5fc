use Rattle.std.proofs.Common.{take}
use Rattle.std.specs.List.{AllByRecursion}
use Rattle.cspf_rows.specs.JournalLaws.{IsChangeInRange}
use Rattle.cspf_book_run.proofs.ranges.batches_in_range.Given as goal

-- the numbers of the batches before this index are in range
abbrev pub invariant-loop-batch : goal.invariant-loop-batch
invariant-loop-batch l = AllByRecursion (λ batch. AllByRecursion IsChangeInRange batch.changes) (take l.batch-index l.batches)
