-- The batches of a journal, and whether rows are left after them.
use Rattle.std.specs.Prelude.{◌≡◌, ◌≢◌, ◌≤◌, ℕ, List, [], ◌∷◌, ◌++◌, map, length, Ok}
use Rattle.std.specs.List.{flat_map}
use Rattle.cspf_model.specs.declared.batch.Change.{Change}
use Rattle.cspf_model.specs.declared.batch.Change.TheVariants as change
use Rattle.cspf_model.specs.Numbered.{NumberedChanges, AreNumberedFrom}
use Rattle.cspf_rows.specs.declared.row.Row.{Row}
use Rattle.cspf_rows.specs.declared.row.Row.TheVariants as row
use Rattle.cspf_rows.specs.declared.journal.Rest.{Rest}
use Rattle.cspf_rows.specs.declared.journal.Rest.TheVariants as rest
use Rattle.cspf_rows.specs.Rows.{row_of}

-- the row of a journal that says this change
abbrev pub change_row : Change → Row
change_row (change.Put link) = row.Put link
change_row (change.Remove from local) = row.Remove from local
change_row (change.Node router transit) = row.Node router transit

-- The rows of a whole batch: one row for each change, in order, and then an `end` row. The `end`
-- row has the number of the batch, and the number of its changes.
abbrev pub batch_rows : NumberedChanges → List Row
batch_rows batch = map change_row batch.changes ++ (row.End batch.number (length batch.changes) ∷ [])

-- the rows of batches, one batch after the other
abbrev pub journal_rows : List NumberedChanges → List Row
journal_rows batches = flat_map batch_rows batches

-- The records begin with the records of whole batches, which are numbered 1, 2, 3 and so on. `left`
-- has the records after these batches. Neither a request nor a record that is no row is ever part
-- of a batch.
pub record BeginsWithBatches (records : List (List (List ℕ))) (batches : List NumberedChanges) (left : List (List (List ℕ))) : Type 0 where
  pub numbers : AreNumberedFrom 1 batches
  pub front : List (List (List ℕ))
  pub split : records ≡ front ++ left
  pub rows : map row_of front ≡ map Ok (journal_rows batches)

-- a journal is clean if no record follows its batches, and torn otherwise
abbrev pub IsRest : List (List (List ℕ)) → Rest → Type 0
IsRest left rest.Clean = left ≡ []
IsRest left rest.Torn = left ≢ []

-- The batches of a journal are numbered 1, 2, 3 and so on. They are the longest prefix of the
-- journal's records that consists of whole batches. A batch of a journal need not fit a database.
pub record IsJournal (records : List (List (List ℕ))) (batches : List NumberedChanges) (rest : Rest) : Type 0 where
  pub left : List (List (List ℕ))
  pub begins : BeginsWithBatches records batches left
  pub longest : (others : List NumberedChanges) (more : List (List (List ℕ))) → BeginsWithBatches records others more → length left ≤ length more
  pub is_rest : IsRest left rest
