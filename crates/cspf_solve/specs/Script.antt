-- The lines and the summary of a run, as a function of the bytes of its rows.
use Rattle.std.specs.Prelude.{◌≡◌, ℕ, ◌+◌, ◌⊎◌, nat_lt, if◌then◌else◌, Bool, true, false, List, [], ◌∷◌, ◌++◌, take, length, Result, Ok, Err}
use Rattle.cspf_model.specs.declared.batch.Change.{Change}
use Rattle.cspf_model.specs.Numbered.{NumberedChanges}
use Rattle.cspf_model.specs.Database.{Database}
use Rattle.cspf_model.specs.Changes.{database_after}
use Rattle.cspf_model.specs.Best.{Answer, IsBestAnswer}
use Rattle.cspf_ero.specs.ReplyLine.{IsReply}
use Rattle.cspf_rows.specs.declared.limits.TheConstants.{MOST_ROWS}
use Rattle.cspf_rows.specs.declared.row.Row.{Row}
use Rattle.cspf_rows.specs.declared.row_error.RowError.{RowError}
use Rattle.cspf_rows.specs.Records.{rows_of}
use Rattle.cspf_rows.specs.declared.step.Step.{Step}
use Rattle.cspf_rows.specs.declared.step.Step.TheVariants as step
use Rattle.cspf_rows.specs.Rows.{row_of}
use Rattle.cspf_rows.specs.Steps.{step_of}
use Rattle.cspf_stream.specs.declared.batch_refusal.BatchRefusal.{BatchRefusal}
use Rattle.cspf_stream.specs.EndRows.{IsBatchAccepted, IsBatchRefusal}
use Rattle.cspf_solve.specs.declared.summary.Summary.{Summary}
use Rattle.cspf_stream.specs.RefusedRows.{refused_row_line}
use Rattle.cspf_stream.specs.Lines.{version_line, refused_batch_line, last_line}

-- the state of a run between two rows of its stream
pub record RunState : Type 0 where
  -- how many rows of the stream were read
  pub rows : ℕ
  -- the batches that were accepted, in order
  pub accepted : List NumberedChanges
  -- the open changes: the changes since the last `end` row
  pub changes : List Change
  -- how many requests were answered
  pub answers : ℕ
  -- how many rows and batches of the stream were refused
  pub refused : ℕ

-- the state before the first row of the stream: version 0, the empty database, and no open changes
abbrev pub start : RunState
start = record { rows = 0; accepted = []; changes = []; answers = 0; refused = 0 }

-- the version of a state: how many batches were accepted
abbrev pub current_version : RunState → ℕ
current_version s = length s.accepted

-- the database of the accepted batches, without the open changes
abbrev pub current_database : RunState → Database
current_database s = database_after s.accepted

-- the batch that has this number and the open changes, which are the changes since the last `end`
-- row
abbrev pub open_batch : RunState → ℕ → NumberedChanges
open_batch s number = record { number = number; changes = s.changes }

-- the state after one more row of the stream is read, before this row is answered
abbrev pub at_next_row : RunState → RunState
at_next_row s = record s { rows = s.rows + 1 }

-- the state after a refused row of the stream: the database, the version and the open changes are
-- unchanged
abbrev pub after_refused_row : RunState → RunState
after_refused_row s = record s { refused = s.refused + 1 }

-- the state after the row of a change: one more change is open
abbrev pub after_change_row : RunState → Change → RunState
after_change_row s c = record s { changes = s.changes ++ c ∷ [] }

-- the state after an accepted batch: the batch has the changes that were open, and no change is
-- open afterwards
abbrev pub after_batch : RunState → ℕ → RunState
after_batch s number = record s { accepted = s.accepted ++ open_batch s number ∷ []; changes = [] }

-- the state after a refused batch: the open changes are dropped, and the database and the version
-- are unchanged
abbrev pub after_refused_batch : RunState → RunState
after_refused_batch s = record s { changes = []; refused = s.refused + 1 }

-- the state after the reply to a request: the database, the version and the open changes are
-- unchanged
abbrev pub after_reply : RunState → RunState
after_reply s = record s { answers = s.answers + 1 }

-- an `end` row with this number and count is accepted: the open changes are a right next batch
abbrev pub IsAccepted : RunState → ℕ → ℕ → Type 0
IsAccepted s number count = IsBatchAccepted (current_version s) (current_version s + 1) s.changes (current_database s) number count

-- an `end` row is answered with the version that its batch makes, or with the refusal of its batch
abbrev pub IsEndAnswered : RunState → ℕ → ℕ → List ℕ → RunState → Type 0
IsEndAnswered s number count line after =
    (IsAccepted s number count × (line ≡ version_line number) × (after ≡ after_batch s number))
    ⊎ ((why : BatchRefusal) × (¬ IsAccepted s number count)
    × IsBatchRefusal (current_version s) (current_version s + 1) s.changes (current_database s) number count why
    × (line ≡ refused_batch_line number why) × (after ≡ after_refused_batch s))

-- a row that asks for this step is answered with this line, and leads to the state `after`
abbrev pub IsStepAnswered : RunState → Step → List ℕ → RunState → Type 0
IsStepAnswered s (step.Change c) line after = (line ≡ []) × (after ≡ after_change_row s c)
IsStepAnswered s (step.End number count) line after = IsEndAnswered s number count line after
IsStepAnswered s (step.Ask q) line after =
    (answer : Answer) × IsBestAnswer (current_database s) q answer × IsReply q.id (current_version s) answer line × (after ≡ after_reply s)

-- row `s.rows`, counted from 1, is answered with this line, and leads to the state `after`
abbrev pub IsRowAnswered : RunState → Result Row RowError → List ℕ → RunState → Type 0
IsRowAnswered s (Err error) line after = (line ≡ refused_row_line s.rows error) × (after ≡ after_refused_row s)
IsRowAnswered s (Ok row) line after = IsStepAnswered s (step_of row) line after

-- rows of a stream are answered one after the other, from the state `s` to the state `after`
unfoldable pub AreRowsAnswered : RunState → List (List (List ℕ)) → List ℕ → RunState → Type 0
AreRowsAnswered s [] lines after = (lines ≡ []) × (after ≡ s)
AreRowsAnswered s (fields ∷ rows) lines after =
    (line : List ℕ) × (next : RunState) × (more : List ℕ)
    × IsRowAnswered (at_next_row s) (row_of fields) line next × (lines ≡ line ++ more) × AreRowsAnswered next rows more after

-- the stream has more than 1,000,000 rows
abbrev pub is_too_many : List (List (List ℕ)) → Bool
is_too_many rows = nat_lt MOST_ROWS (length rows)

-- The number that is added to the count of refusals at the end of a run: 1 if changes are still
-- open, and 0 otherwise. If there are too many rows, the number is always 0.
abbrev pub unended_count : Bool → List Change → ℕ
unended_count true changes = 0
unended_count false changes = if nat_lt 0 (length changes) then 1 else 0

-- the summary of a run that ends in this state
abbrev pub summary_of : RunState → Bool → Summary
summary_of s too_many = record {
  rows = s.rows;
  version = current_version s;
  answers = s.answers;
  refused = s.refused + unended_count too_many s.changes;
  too_many = too_many;
}

-- A run over rows: the first 1,000,000 rows are answered one after the other, and the last line
-- follows.
pub record IsSolveRun (rows : List (List (List ℕ))) (lines : List ℕ) (summary : Summary) : Type 0 where
  pub replies : List ℕ
  pub after : RunState
  pub answered : AreRowsAnswered start (take MOST_ROWS rows) replies after
  pub whole : lines ≡ replies ++ last_line (is_too_many rows) after.changes
  pub counts : summary ≡ summary_of after (is_too_many rows)

-- the run over the rows of a stream of bytes has these lines and this summary
abbrev pub IsScript : List ℕ → List ℕ → Summary → Type 0
IsScript bytes lines summary = IsSolveRun (rows_of bytes) lines summary
