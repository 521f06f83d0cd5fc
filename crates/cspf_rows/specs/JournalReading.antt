-- Private: which rows a reader of a journal has read, and to which batches and changes these rows
-- belong.
use Rattle.std.specs.Prelude.{◌≡◌, ◌≢◌, ◌+◌, ◌≤◌, ℕ, Bool, false, Option, IfSome, List, [], ◌∷◌, ◌++◌, map, length, Result, Ok, Err}
use Rattle.std.specs.Bool.{MatchBool}
use Rattle.cspf_model.specs.declared.batch.Change.{Change}
use Rattle.cspf_model.specs.Numbered.{NumberedChanges, AreNumberedFrom}
use Rattle.cspf_rows.specs.declared.journal.JournalStep.{JournalStep}
use Rattle.cspf_rows.specs.declared.journal.JournalStep.TheVariants as journal_step
use Rattle.cspf_rows.specs.declared.journal.reader.JournalReader.{JournalReader}
use Rattle.cspf_rows.specs.declared.journal.taken_row.Taken.{Taken}
use Rattle.cspf_rows.specs.declared.journal.taken_row.Taken.TheVariants as taken
use Rattle.cspf_rows.specs.declared.limits.TheConstants.{MOST_ROWS}
use Rattle.cspf_rows.specs.declared.row.Row.{Row}
use Rattle.cspf_rows.specs.declared.row.Row.TheVariants as row
use Rattle.cspf_rows.specs.declared.row_error.RowError.{RowError}
use Rattle.cspf_rows.specs.declared.step.Step.{Step}
use Rattle.cspf_rows.specs.declared.step.Step.TheVariants as step
use Rattle.cspf_rows.specs.Rows.{row_of}
use Rattle.cspf_rows.specs.Steps.{step_of}
use Rattle.cspf_rows.specs.Records.{rows_left}
use Rattle.cspf_rows.specs.Journal.{IsJournal, journal_rows, change_row}
use Rattle.cspf_rows.specs.Progress.{HasSeen}

-- The step is neither a change nor the end of the batch with this number and this many changes.
abbrev pub IsNoPart : ℕ → ℕ → Step → Type 0
IsNoPart number count (step.Change change) = ⊥
IsNoPart number count (step.End n k) = ¬ ((n ≡ number) × (k ≡ count))
IsNoPart number count (step.Ask request) = Unit {0}

-- the row is neither a change nor the `end` row of the batch with this number and this many changes
abbrev pub EndsBatches : ℕ → ℕ → Result Row RowError → Type 0
EndsBatches number count (Ok row) = IsNoPart number count (step_of row)
EndsBatches number count (Err error) = Unit {0}

-- There are no rows, or the first row doesn't belong to the batch with this number and this many
-- changes. Such a row is neither a change nor the `end` row of this batch.
abbrev pub AreBehind : ℕ → ℕ → List (Result Row RowError) → Type 0
AreBehind number count [] = Unit {0}
AreBehind number count (row ∷ rows) = EndsBatches number count row

-- How a row changes the batch that is being read, which has the number `next`. `old` is the batch
-- before the row, and `new` is the batch after the row.
abbrev pub IsTaken : Result Row RowError → ℕ → NumberedChanges → NumberedChanges → Taken → Type 0
IsTaken read next old new taken.Change =
    (change : Change) × (read ≡ Ok (change_row change)) × (new.changes ≡ old.changes ++ change ∷ [])
IsTaken read next old new taken.Batch =
    (read ≡ Ok (row.End next (length old.changes))) × (new.number ≡ next) × (new.changes ≡ old.changes)
IsTaken read next old new taken.Behind =
    EndsBatches next (length old.changes) read × (new.changes ≡ old.changes)

-- The records consist of three parts: the records of whole batches, the records of open changes,
-- and the rest. An open change is a change whose `end` row hasn't come. `has_ended` says whether
-- there is a rest. The rest begins with a record that is in no batch, and any records may follow
-- this record.
pub record AreJournalParts (batches : List NumberedChanges) (changes : List Change) (has_ended : Bool)
    (seen : List (List (List ℕ))) : Type 0 where
  pub numbers : AreNumberedFrom 1 batches
  pub whole : List (List (List ℕ))
  pub open_ones : List (List (List ℕ))
  pub behind : List (List (List ℕ))
  pub split : seen ≡ whole ++ (open_ones ++ behind)
  pub whole_rows : map row_of whole ≡ map Ok (journal_rows batches)
  pub open_rows : map row_of open_ones ≡ map Ok (map change_row changes)
  pub ends : AreBehind (1 + length batches) (length changes) (map row_of behind)
  pub ended : MatchBool has_ended (behind ≢ []) (behind ≡ [])

-- The reader has read the records of these batches, and then the records of these open changes,
-- whose `end` row hasn't come. If `has_ended` is true, the reader has also read a row that is in no
-- batch, and perhaps further rows after it.
pub record HasRead {R : Type 0} (rem : R → Option (List ℕ)) (all : Option (List (List (List ℕ))))
    (reader : JournalReader R) (batches : List NumberedChanges) (changes : List Change)
    (has_ended : Bool) : Type 0 where
  pub count : reader.count ≡ length batches
  pub seen : HasSeen (AreJournalParts batches changes has_ended) all (rows_left rem reader.records) reader.rows

-- what a reader that has read `batches` finds next: one more whole batch, or the end of the batches
abbrev pub ComesTo : {R : Type 0} → (R → Option (List ℕ)) → Option (List (List (List ℕ))) → JournalReader R
    → List NumberedChanges → NumberedChanges → JournalStep → Type 0
ComesTo rem all reader batches batch journal_step.Batch = HasRead rem all reader (batches ++ batch ∷ []) [] false
ComesTo rem all reader batches batch (journal_step.End rest) =
    IfSome all (λ rows. IsJournal rows batches rest × (length rows ≤ MOST_ROWS))
