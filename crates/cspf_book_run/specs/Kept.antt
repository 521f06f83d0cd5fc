-- The text of the rows that a book accepts, which goes to the writer `keep`. A run over this text
-- ends with the same book as the run over all rows.
use Rattle.std.specs.Prelude.{◌≡◌, ◌==◌, if◌then◌else◌, ℕ, List, [], Result, Ok, Err}
use Rattle.csv.specs.Writing.{default_writer, row_text}
use Rattle.cspf_rows.specs.BatchText.{batch_text}
use Rattle.cspf_stream.specs.RowAnswers.{AnswersOf, AreAnswered}
use Rattle.cspf_rows.specs.Steps.{step_of}
use Rattle.cspf_rows.specs.declared.step.Step.{Step}
use Rattle.cspf_rows.specs.declared.step.Step.TheVariants as step
use Rattle.cspf_book_run.specs.BookRows.{book_row_of}
use Rattle.cspf_book_run.specs.BookScript.{BookRunState, book_answers, book_start, open_base_batch}
use Rattle.cspf_book_run.specs.declared.book_row.BookRow.{BookRow}
use Rattle.cspf_book_run.specs.declared.book_row.BookRow.TheVariants as book_row
use Rattle.cspf_book_run.specs.declared.book_row_error.BookRowError.{BookRowError}

-- The text that goes to `keep`, the writer of accepted rows, for a row of the base that makes a new
-- version of the book. For an end row, this is the text of its whole batch. For other rows, it is
-- empty.
abbrev pub text_of_step : BookRunState → Step → List ℕ
text_of_step s (step.End number count) = batch_text (open_base_batch s number)
text_of_step s other = []

-- The text that goes to `keep`, the writer of accepted rows, for a row that makes a new version of
-- the book. For a `place`, `release` or `held` row, this is the text of the row itself.
abbrev pub text_of_row : BookRunState → List (List ℕ) → Result BookRow BookRowError → List ℕ
text_of_row s fields (Err e) = []
text_of_row s fields (Ok (book_row.Base row)) = text_of_step s (step_of row)
text_of_row s fields (Ok other) = row_text default_writer fields

-- The text that goes to the writer `keep` for the row with these fields. `s` is the state before
-- the row, and `t` is the state after the row. A row is accepted if it makes a new version of the
-- book. Such a row is an end row whose batch is accepted, a `place` row that places a route, a
-- `release` row that releases a placement, or a `held` row that restores one. For other rows, the
-- text is empty.
abbrev pub kept_of : BookRunState → List (List ℕ) → BookRunState → List ℕ
kept_of s fields t = if t.book.version == s.book.version then [] else text_of_row s fields (book_row_of fields)

-- Row `place`, counted from 1, is answered. `text` goes to `keep`, the writer of accepted rows, for
-- this row.
abbrev pub kept_answers : AnswersOf BookRunState
kept_answers place s fields text t = (line : List ℕ) × book_answers place s fields line t × (text ≡ kept_of s fields t)

-- The rows are answered one after the other, from the state before the first row to the state
-- `after`. `text` goes to `keep`, the writer of accepted rows, for these rows.
abbrev pub AreBookRowsKept : List (List (List ℕ)) → List ℕ → BookRunState → Type 0
AreBookRowsKept rows text after = AreAnswered kept_answers 1 book_start rows text after
