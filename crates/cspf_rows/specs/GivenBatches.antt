-- Which batches of a journal a reader has returned, and whether it can return more.
use Rattle.std.specs.Prelude.{◌≡◌, ◌≤◌, ℕ, true, false, Option, List, [], length}
use Rattle.csv.specs.Reading.{has_failed}
use Rattle.cspf_model.specs.Numbered.{NumberedChanges, AreNumberedFrom}
use Rattle.cspf_rows.specs.declared.journal.reader.JournalReader.{JournalReader}
use Rattle.cspf_rows.specs.declared.limits.TheConstants.{MOST_ROWS}
use Rattle.cspf_rows.specs.JournalReading.{HasRead}
use Rattle.cspf_rows.specs.Records.{IsPlain}

-- how many rows of a journal a reader has read
abbrev pub rows_read : {R : Type 0} → JournalReader R → ℕ
rows_read reader = reader.rows

-- The reader can be asked for the next batch: it hasn't failed, and it hasn't reached the end of
-- the batches.
pub record CanRead {R : Type 0} (reader : JournalReader R) : Type 0 where
  pub plain : IsPlain reader.records
  pub rows : rows_read reader ≤ MOST_ROWS
  pub count : reader.count ≤ rows_read reader

-- a read of the journal's bytes failed
abbrev pub HasFailed : {R : Type 0} → JournalReader R → Type 0
HasFailed reader = has_failed reader.records ≡ true

-- The reader has returned these batches, and has read no row after them. The batches are numbered
-- 1, 2, 3 and so on. `all` has all records of the journal, if the bytes of the journal are known.
pub record HasGiven {R : Type 0} (rem : R → Option (List ℕ)) (all : Option (List (List (List ℕ))))
    (reader : JournalReader R) (batches : List NumberedChanges) : Type 0 where
  pub numbers : AreNumberedFrom 1 batches
  pub few : length batches ≤ rows_read reader
  pub read : HasRead rem all reader batches [] false
