use Rattle.std.proofs.Common.{◌-◌, ℕ, List, Option, true}
use Rattle.cspf_model.specs.declared.batch.Change.{Change}
use Rattle.cspf_model.specs.Numbered.{NumberedChanges}
use Rattle.cspf_rows.specs.GivenBatches.{CanRead}
use Rattle.cspf_rows.specs.JournalReading.{HasRead}
use Rattle.cspf_rows.proofs.journal.reader.JournalReader.skip_rest.Given as goal

abbrev pub invariant-loop : goal.invariant-loop
invariant-loop g l = record {
  can : CanRead l.self;
  read : (all : Option (List (List (List ℕ)))) (given : List NumberedChanges) (changes : List Change)
      → HasRead g.R.Read.remaining all l.fn.self given changes true → HasRead g.R.Read.remaining all l.self given changes true;
}

abbrev pub decreases-loop : goal.decreases-loop
decreases-loop g l = 1000000 - l.self.rows
