-- A run of a book that writes the text of each accepted row to `keep`, the writer of accepted rows.
-- Once a write to `keep` has failed, no row is accepted any more.
use Rattle.std.specs.Prelude.{◌≡◌, ℕ, ◌<◌, ◌⊎◌, Bool, true, false, List, [], ◌++◌, take, length, Result, Ok, Err}
use Rattle.cspf_rows.specs.declared.limits.TheConstants.{MOST_ROWS}
use Rattle.cspf_rows.specs.declared.step.Step.{Step}
use Rattle.cspf_rows.specs.declared.step.Step.TheVariants as step
use Rattle.cspf_rows.specs.Records.{rows_of}
use Rattle.cspf_rows.specs.Steps.{step_of}
use Rattle.cspf_stream.specs.declared.batch_refusal.BatchRefusal.{BatchRefusal}
use Rattle.cspf_stream.specs.declared.batch_refusal.BatchRefusal.TheVariants as refusal
use Rattle.cspf_stream.specs.Lines.{refused_batch_line, last_line}
use Rattle.cspf_stream.specs.RowAnswers.{AnswersOf, AreAnswered}
use Rattle.cspf_solve.specs.declared.summary.Summary.{Summary}
use Rattle.cspf_solve.specs.Script.{is_too_many}
use Rattle.cspf_book_run.specs.BookLines.{refused_place_line, refused_release_line}
use Rattle.cspf_book_run.specs.BookRows.{book_row_of}
use Rattle.cspf_book_run.specs.BookScript.{BookRunState, book_start, book_answers, book_summary_of, after_refusal, after_refused_base_batch, IsBookStepAnswered, IsBookRowTaken, IsBookRowAnswered}
use Rattle.cspf_book_run.specs.WriteFaultWords.{batch_refusal_of}
use Rattle.cspf_book_run.specs.Kept.{kept_of}
use Rattle.cspf_book_run.specs.PlacementLines.{refused_held_line, refused_offer_line}
use Rattle.cspf_book.specs.Placements.{id_of}
use Rattle.cspf_book_run.specs.declared.book_row.BookRow.{BookRow}
use Rattle.cspf_book_run.specs.declared.book_row.BookRow.TheVariants as book_row
use Rattle.cspf_book_run.specs.declared.book_row_error.BookRowError.{BookRowError}
use Rattle.cspf_book_run.specs.declared.held_refusal.HeldRefusal.{HeldRefusal}
use Rattle.cspf_book_run.specs.declared.held_refusal.HeldRefusal.TheVariants as unheld
use Rattle.cspf_book_run.specs.declared.refusals.PlaceRefusal.{PlaceRefusal}
use Rattle.cspf_book_run.specs.declared.refusals.PlaceRefusal.TheVariants as unplaced
use Rattle.cspf_book_run.specs.declared.refusals.ReleaseRefusal.{ReleaseRefusal}
use Rattle.cspf_book_run.specs.declared.refusals.ReleaseRefusal.TheVariants as unreleased
use Rattle.cspf_book_run.specs.declared.write_fault.WriteFault.{WriteFault}
use Rattle.cspf_book_run.specs.declared.write_fault.WriteFault.TheVariants as fault

-- the state of a run between two rows
pub record KeptRunState : Type 0 where
  -- the book, the open changes, and the counts of answers and refusals
  pub run : BookRunState
  -- whether a write to `keep` has failed
  pub stopped : Bool
  -- the bytes that were written to `keep`
  pub kept : List ℕ

-- the state before the first row: nothing was written to `keep`
abbrev pub kept_start : KeptRunState
kept_start = record { run = book_start; stopped = false; kept = [] }

-- ---- rows that aren't accepted because of `keep`

-- An end row is refused for this reason. The changes since the last end row are dropped.
abbrev pub IsEndUnkept : BatchRefusal → BookRunState → Step → List ℕ → BookRunState → Type 0
IsEndUnkept why s (step.End number count) line after = (line ≡ refused_batch_line number why) × (after ≡ after_refused_base_batch s)
IsEndUnkept why s other line after = ⊥

-- the reason for which a row is refused, for each kind of rows that could change the book
pub record RowRefusals : Type 0 where
  pub batch : BatchRefusal
  pub place : PlaceRefusal
  pub release : ReleaseRefusal
  pub held : HeldRefusal

-- Each kind of rows is refused by `stopped`.
abbrev pub by_stopped : RowRefusals
by_stopped = record { batch = refusal.Stopped; place = unplaced.Stopped; release = unreleased.Stopped; held = unheld.Stopped }

-- Each kind of rows is refused because this write failed.
abbrev pub by_fault : WriteFault → RowRefusals
by_fault why = record {
  batch = batch_refusal_of why;
  place = unplaced.Failed why;
  release = unreleased.Failed why;
  held = unheld.Failed why;
}

-- A row is refused for one of these reasons, each for its kind. The book is unchanged. An `offer`
-- row has the reasons of a `place` row. A row that only looks is never refused so.
abbrev pub IsRowUnkept : RowRefusals → BookRunState → BookRow → List ℕ → BookRunState → Type 0
IsRowUnkept why s (book_row.Base row) line after = IsEndUnkept why.batch s (step_of row) line after
IsRowUnkept why s (book_row.Place q hold) line after = (line ≡ refused_place_line q.id why.place) × (after ≡ after_refusal s)
IsRowUnkept why s (book_row.Release id) line after = (line ≡ refused_release_line id why.release) × (after ≡ after_refusal s)
IsRowUnkept why s (book_row.Held p) line after = (line ≡ refused_held_line (id_of p) why.held) × (after ≡ after_refusal s)
IsRowUnkept why s (book_row.Offer q hold) line after = (line ≡ refused_offer_line q.id why.place) × (after ≡ after_refusal s)
IsRowUnkept why s other line after = ⊥

-- The row is refused because this write failed.
abbrev pub IsRowCut : WriteFault → BookRunState → BookRow → List ℕ → BookRunState → Type 0
IsRowCut why s row line after = IsRowUnkept (by_fault why) s row line after

-- A write of the row's text fails after the first `written` bytes. If all of the text were written,
-- the row would be accepted, and `next` would be the state after it. Instead it is refused by `keep
-- W`, where W is `written`.
pub record IsKeepFault (place : ℕ) (s : BookRunState) (fields : List (List ℕ)) (written : ℕ) (line : List ℕ) (after : BookRunState) : Type 0 where
  pub lines : List ℕ
  pub next : BookRunState
  pub accepted : book_answers place s fields lines next
  pub part : written < length (kept_of s fields next)
  pub row : BookRow
  pub read : book_row_of fields ≡ Ok row
  pub refused : IsRowCut (fault.Keep written) s row line after

-- How a row of the base is answered after a write has failed. Each end row is refused by `stopped`,
-- before any other reason. Changes and requests are answered as before.
abbrev pub IsStepStopped : BookRunState → Step → List ℕ → BookRunState → Type 0
IsStepStopped s (step.End number count) line after = IsEndUnkept refusal.Stopped s (step.End number count) line after
IsStepStopped s other line after = IsBookStepAnswered s other line after

-- How a row whose fields could be read is answered after a write has failed. Each `place`,
-- `release`, `held` and `offer` row is refused by `stopped`, before any other reason. Rows that only
-- look are answered as before.
abbrev pub IsTakenStopped : BookRunState → BookRow → List ℕ → BookRunState → Type 0
IsTakenStopped s (book_row.Base row) line after = IsStepStopped s (step_of row) line after
IsTakenStopped s (book_row.Show id) line after = IsBookRowTaken s (book_row.Show id) line after
IsTakenStopped s (book_row.Left from local) line after = IsBookRowTaken s (book_row.Left from local) line after
IsTakenStopped s other line after = IsRowUnkept by_stopped s other line after

-- How a row is answered after a write has failed. A row that couldn't be read is refused as before.
abbrev pub IsAnsweredStopped : ℕ → BookRunState → Result BookRow BookRowError → List ℕ → BookRunState → Type 0
IsAnsweredStopped place s (Err error) line after = IsBookRowAnswered place s (Err error) line after
IsAnsweredStopped place s (Ok row) line after = IsTakenStopped s row line after

-- how a row with these fields is answered after a write has failed
abbrev pub stopped_answers : AnswersOf BookRunState
stopped_answers place s fields line after = IsAnsweredStopped place s (book_row_of fields) line after

-- ---- all rows

-- The row is answered, and all of its text is written to `keep`. The text is empty if the row isn't
-- accepted.
abbrev pub IsRowWritten : AnswersOf KeptRunState
IsRowWritten place s fields line t =
    (s.stopped ≡ false) × (t.stopped ≡ false) × book_answers place s.run fields line t.run × (t.kept ≡ s.kept ++ kept_of s.run fields t.run)

-- The write of the row's text fails, and the row is refused.
abbrev pub IsRowCutOff : AnswersOf KeptRunState
IsRowCutOff place s fields line t =
    (s.stopped ≡ false) × (t.stopped ≡ true)
    × (written : ℕ) × (fault : IsKeepFault place s.run fields written line t.run)
    × (t.kept ≡ s.kept ++ take written (kept_of s.run fields fault.next))

-- A write has failed at an earlier row, and nothing is written.
abbrev pub IsRowAfterFault : AnswersOf KeptRunState
IsRowAfterFault place s fields line t =
    (s.stopped ≡ true) × (t.stopped ≡ true) × stopped_answers place s.run fields line t.run × (t.kept ≡ s.kept)

-- How a row with these fields is answered, and what is written to `keep`.
abbrev pub kept_run_answers : AnswersOf KeptRunState
kept_run_answers place s fields line t = IsRowWritten place s fields line t ⊎ (IsRowCutOff place s fields line t ⊎ IsRowAfterFault place s fields line t)

-- The rows are answered one after the other, from the state before the first row to the state
-- `after`.
abbrev pub AreKeptRowsAnswered : List (List (List ℕ)) → List ℕ → KeptRunState → Type 0
AreKeptRowsAnswered rows lines after = AreAnswered kept_run_answers 1 kept_start rows lines after

-- A run over rows. The first 1,000,000 rows are answered one after the other, and then the last
-- line is written. `kept` was written to `keep`.
pub record IsBookRun (rows : List (List (List ℕ))) (lines kept : List ℕ) (summary : Summary) : Type 0 where
  pub replies : List ℕ
  pub after : KeptRunState
  pub answered : AreKeptRowsAnswered (take MOST_ROWS rows) replies after
  pub whole : lines ≡ replies ++ last_line (is_too_many rows) after.run.changes
  pub whole_kept : kept ≡ after.kept
  pub counts : summary ≡ book_summary_of (length (take MOST_ROWS rows)) after.run (is_too_many rows)

-- a run over the rows that a stream of bytes has
abbrev pub IsBookScript : List ℕ → List ℕ → List ℕ → Summary → Type 0
IsBookScript bytes lines kept summary = IsBookRun (rows_of bytes) lines kept summary
