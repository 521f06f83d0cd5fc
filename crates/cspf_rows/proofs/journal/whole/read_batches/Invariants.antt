use Rattle.std.proofs.Common.{◌-◌, ◌≤◌, ℕ, List, [], length, Option}
use Rattle.cspf_rows.specs.GivenBatches.{CanRead, HasGiven}
use Rattle.cspf_rows.proofs.journal.whole.read_batches.Given as goal

-- the reader has returned exactly the batches that are in the list so far
abbrev pub invariant-loop-batch : goal.invariant-loop-batch
invariant-loop-batch g l = record {
  can : CanRead l.journal;
  few : length l.batches.items ≤ l.journal.rows;
  given : (all : Option (List (List (List ℕ)))) → HasGiven g.R.Read.remaining all l.fn.journal []
      → HasGiven g.R.Read.remaining all l.journal l.batches.items;
}

abbrev pub decreases-loop-batch : goal.decreases-loop-batch
decreases-loop-batch g l = 1000000 - l.journal.rows
