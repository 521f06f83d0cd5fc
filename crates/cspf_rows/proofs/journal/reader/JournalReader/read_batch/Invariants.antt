use Rattle.std.proofs.Common.{◌-◌, ◌≤◌, ℕ, List, [], Option, false}
use Rattle.cspf_model.specs.Numbered.{NumberedChanges}
use Rattle.cspf_rows.specs.GivenBatches.{CanRead}
use Rattle.cspf_rows.specs.JournalReading.{HasRead}
use Rattle.cspf_rows.proofs.journal.reader.JournalReader.read_batch.Given as goal

-- the reader has read all batches before the current batch, and then one row for each change that
-- the current batch has so far
abbrev pub invariant-loop-step : goal.invariant-loop-step
invariant-loop-step g l = record {
  can : CanRead l.self;
  on : l.fn.self.rows ≤ l.self.rows;
  read : (all : Option (List (List (List ℕ)))) (given : List NumberedChanges)
      → HasRead g.R.Read.remaining all l.fn.self given [] false → HasRead g.R.Read.remaining all l.self given l.batch.changes false;
}

abbrev pub decreases-loop-step : goal.decreases-loop-step
decreases-loop-step g l = 1000000 - l.self.rows
