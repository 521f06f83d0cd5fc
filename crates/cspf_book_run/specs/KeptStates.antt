-- How one row is answered and its text is kept.
use Rattle.std.specs.Prelude.{◌≡◌, ℕ, ◌⊎◌, Bool, true, false, List, Result, Ok, Err}
use Rattle.cspf_stream.specs.Lines.{last_line}
use Rattle.cspf_stream.specs.declared.rows.Rows.{Rows}
use Rattle.cspf_book_run.specs.declared.book_row.BookRow.{BookRow}
use Rattle.cspf_book_run.specs.declared.book_row_error.BookRowError.{BookRowError}
use Rattle.cspf_book_run.specs.declared.book_rows.BookRows.{BookRows}
use Rattle.cspf_book_run.specs.BookRows.{book_row_of}
use Rattle.cspf_book_run.specs.BookScript.{BookRunState, after_refused_base_batch, IsBookRowAnswered, IsBookRowTaken}
use Rattle.cspf_book_run.specs.BookSinks.{BookSinkState}
use Rattle.cspf_book_run.specs.BookStates.{KeepsBook, BookLeads, CountsBookRow}
use Rattle.cspf_book_run.specs.Kept.{text_of_row}
use Rattle.cspf_book_run.specs.KeptRuns.{IsRowCut, IsTakenStopped}
use Rattle.cspf_book_run.specs.Keeping.{KeepSpec, IsCutWith, IsKeptIfNew}
use Rattle.cspf_book_run.specs.OutOfMemory.{row_name_of, IsRefusedByMemory}
use Rattle.cspf_book_run.specs.declared.row_name.RowName.TheVariants as name
use Rattle.cspf_book_run.specs.declared.write_fault.WriteFault.{WriteFault}

module _ {S : Type 0} (spec : KeepSpec S) where
  -- The row would be accepted, but its text isn't kept, so it is refused.
  pub record IsRowFailed (s : BookRunState) (fields : List (List ℕ)) (row : BookRow) (line : List ℕ) (t : BookRunState) (old new : S) : Type 0 where
    pub why : WriteFault
    pub lines : List ℕ
    pub next : BookRunState
    pub going : spec.stopped old ≡ false
    pub accepted : IsBookRowTaken s row lines next
    pub cut_off : IsCutWith spec s.book next.book why old (text_of_row s fields (Ok row)) new
    pub refused : IsRowCut why s row line t

  -- A row whose fields could be read is answered. If it makes a new version, its text is kept. Or
  -- its text isn't kept, or it was stopped earlier.
  abbrev pub IsRowDone : BookRunState → List (List ℕ) → BookRow → List ℕ → BookRunState → S → S → Type 0
  IsRowDone s fields row line t old new =
      ((spec.stopped old ≡ false) × IsBookRowTaken s row line t × IsKeptIfNew spec s.book t.book old (text_of_row s fields (Ok row)) new)
      ⊎ (IsRowFailed s fields row line t old new ⊎ ((spec.stopped old ≡ true) × IsTakenStopped s row line t × (new ≡ old)))

  -- What is kept for a row at which memory is refused: nothing, or a write of its text failed.
  abbrev pub IsKeepLost : BookRunState → List (List ℕ) → Result BookRow BookRowError → S → S → Type 0
  IsKeepLost s fields (Err error) old new = new ≡ old
  IsKeepLost s fields (Ok row) old new = (new ≡ old) ⊎ ((line : List ℕ) × (t : BookRunState) × IsRowFailed s fields row line t old new)

  -- Row `place` is answered. For a row that couldn't be read nothing is kept.
  abbrev pub IsAnsweredDone : ℕ → BookRunState → List (List ℕ) → Result BookRow BookRowError → List ℕ → BookRunState → S → S → Type 0
  IsAnsweredDone place s fields (Err error) line t old new = IsBookRowAnswered place s (Err error) line t × (new ≡ old)
  IsAnsweredDone place s fields (Ok row) line t old new = IsRowDone s fields row line t old new

  -- The code's rows, if memory is refused while a row is answered. They store the state before the
  -- row. Or the row is an end row that is refused, and only its line is missing.
  abbrev pub IsStateLost : BookRunState → Result BookRow BookRowError → Rows (BookSinkState S) → Type 0
  IsStateLost s (Err error) new = KeepsBook new s
  IsStateLost s (Ok row) new = KeepsBook new s ⊎ ((number : ℕ) × (row_name_of row ≡ name.Batch number) × KeepsBook new (after_refused_base_batch s))

  -- Memory is refused while a row is answered.
  abbrev pub IsAnsweredLost : List (List ℕ) → Result BookRow BookRowError → Rows (BookSinkState S) → Rows (BookSinkState S) → Type 0
  IsAnsweredLost fields row old new =
      (s : BookRunState) → KeepsBook old s → IsStateLost s row new × IsKeepLost s fields row old.sink.keeping new.sink.keeping

  -- Row `place` is answered, or memory is refused and the row is refused by `memory`.
  abbrev pub IsAnsweredOrOut : ℕ → BookRunState → List (List ℕ) → Result BookRow BookRowError → List ℕ → BookRunState → S → S → Type 0
  IsAnsweredOrOut place s fields row line t old new =
      IsAnsweredDone place s fields row line t old new ⊎ (IsRefusedByMemory place s row line t × IsKeepLost s fields row old new)

  -- Row `place` is answered, and the code goes from the state `old` to the state `new`.
  pub record IsBookAnswer (place : ℕ) (old : BookRows S) (fields : List (List ℕ)) (line : List ℕ) (new : BookRows S) : Type 0 where
    pub lead : BookLeads old.rows new.rows (λ s t. IsAnsweredDone place s fields (book_row_of fields) line t old.rows.sink.keeping new.rows.sink.keeping)
    pub counts : CountsBookRow old new

  -- The same, but a row at which memory is refused may be refused by `memory`.
  pub record IsBookAnswerOrOut (place : ℕ) (old : BookRows S) (fields : List (List ℕ)) (line : List ℕ) (new : BookRows S) : Type 0 where
    pub lead : BookLeads old.rows new.rows (λ s t. IsAnsweredOrOut place s fields (book_row_of fields) line t old.rows.sink.keeping new.rows.sink.keeping)
    pub counts : CountsBookRow old new

  -- Memory is refused at row `place`.
  abbrev pub IsBookAnswerLost : ℕ → BookRows S → List (List ℕ) → BookRows S → Type 0
  IsBookAnswerLost place old fields new = IsAnsweredLost fields (book_row_of fields) old.rows new.rows

-- The line is the last line of a run that ends in the code's state.
abbrev pub IsBookLast : {S : Type 0} → BookRows S → Bool → List ℕ → Type 0
IsBookLast k too_many line = (s : BookRunState) → KeepsBook k.rows s → line ≡ last_line too_many s.changes
