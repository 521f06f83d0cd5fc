-- A run over the texts of accepted rows ends with the same book as the run over all rows. A run
-- refuses at most one row because a write to `keep`, the writer of accepted rows, fails there. After
-- this row nothing changes in the book.
use Rattle.std.specs.Prelude.{◌≡◌, ◌<◌, ◌≤◌, ◌+◌, ◌⊎◌, ℕ, suc, Bool, true, false, List, [], ◌∷◌, ◌++◌, take, length}
use Rattle.cspf_model.specs.declared.link.Link.{Link}
use Rattle.cspf_rows.specs.Records.{rows_of}
use Rattle.cspf_stream.specs.RowAnswers.{AnswersOf, AreAnswered}
use Rattle.cspf_book_run.specs.BookRows.{book_row_of}
use Rattle.cspf_book_run.specs.OutOfMemory.{IsRefusedByMemory}
use Rattle.cspf_book_run.specs.BookScript.{BookRunState, AreBookRowsAnswered, book_answers, going_on}
use Rattle.cspf_book_run.specs.Compacts.{AreAllTaken}
use Rattle.cspf_book_run.specs.BookScriptLaws.{IsSaidOver}
use Rattle.cspf_book_run.specs.Kept.{AreBookRowsKept, kept_answers, kept_of}
use Rattle.cspf_book_run.specs.KeptRuns.{KeptRunState, AreKeptRowsAnswered, IsRowCutOff, kept_run_answers, stopped_answers}

-- The text has at most `most` rows. A run over these earlier rows, and then over the rows of the
-- text, ends with the book of the state `t`: the same base, version and placements. The run refuses
-- no row, and at its end no changes are open.
pub record RemakesBehind (earlier : List (List (List ℕ))) (text : List ℕ) (most : ℕ) (t : BookRunState) : Type 0 where
  pub few : length (rows_of text) ≤ most
  pub lines : List ℕ
  pub after : BookRunState
  pub answered : AreBookRowsAnswered (earlier ++ rows_of text) lines after
  pub book : after.book ≡ t.book
  pub batches : after.batches ≡ t.batches
  pub changes : after.changes ≡ []
  pub refused : after.refused ≡ 0

-- The same of a text with no earlier rows.
abbrev pub RemakesBook : List ℕ → ℕ → BookRunState → Type 0
RemakesBook text most t = RemakesBehind [] text most t

-- Let a run answer some rows, and let `text` go to `keep`, the writer of accepted rows. Then a run
-- over this text ends with the same book. The text has at most as many rows as were answered.
abbrev pub KeptIsTheBook : Type 0
KeptIsTheBook =
    (rows : List (List (List ℕ))) (text : List ℕ) (t : BookRunState) → AreBookRowsKept rows text t → RemakesBook text (length rows) t

-- Row `place`, counted from 1, is answered, and `text` goes to `keep` for this row. Or memory is
-- refused, the row is refused by `memory`, and no text goes to `keep`.
abbrev pub kept_or_out_answers : AnswersOf BookRunState
kept_or_out_answers place s fields text t =
    kept_answers place s fields text t ⊎ ((text ≡ []) × (line : List ℕ) × IsRefusedByMemory place s (book_row_of fields) line t)

-- Let a run go on with the book of earlier rows, of which none was refused and whose changes all
-- have their end row. Let it answer some rows or refuse them by `memory`, and let `text` go to
-- `keep`. Then a run over the earlier rows and this text ends with the same book.
abbrev pub KeptBehindIsTheBook : Type 0
KeptBehindIsTheBook =
    (earlier rows : List (List (List ℕ))) (begun : BookRunState) (skipped : ℕ) (text : List ℕ) (t : BookRunState) → AreAllTaken earlier begun → begun.changes ≡ []
    → AreAnswered kept_or_out_answers 1 (going_on begun skipped) rows text t → RemakesBehind earlier text (length rows) t

-- No write to `keep` has failed, and no write fails at these rows. The rows are answered as a book
-- answers them, and exactly the texts of the accepted rows are written.
pub record IsKeptThroughout (place : ℕ) (s : KeptRunState) (rows : List (List (List ℕ))) (lines : List ℕ) (t : KeptRunState) : Type 0 where
  pub before : s.stopped ≡ false
  pub after : t.stopped ≡ false
  pub answered : AreAnswered book_answers place s.run rows lines t.run
  pub text : List ℕ
  pub keeps : AreAnswered kept_answers place s.run rows text t.run
  pub whole : t.kept ≡ s.kept ++ text

-- A write to `keep` fails at one of these rows, the row with the fields `fields`. The rows before it
-- are answered as if none failed. `said` is the line that refuses it by `keep W`. Of the rows after
-- it, those that could change the book are refused by `stopped`. So the book stays as it was before
-- the row, no `over` line is written any more, and nothing is written to `keep`.
pub record StopsAtOneRow (place : ℕ) (s : KeptRunState) (rows : List (List (List ℕ))) (lines : List ℕ) (t : KeptRunState) : Type 0 where
  pub done : List (List (List ℕ))
  pub fields : List (List ℕ)
  pub rest : List (List (List ℕ))
  pub split : rows ≡ done ++ fields ∷ rest
  pub first : List ℕ
  pub said : List ℕ
  pub last : List ℕ
  pub whole : lines ≡ first ++ said ++ last
  pub before : KeptRunState
  pub kept : IsKeptThroughout place s done first before
  pub after : KeptRunState
  pub cut_off : IsRowCutOff (place + length done) before fields said after
  pub later : AreAnswered stopped_answers (suc (place + length done)) after.run rest last t.run
  pub stopped : t.stopped ≡ true
  pub same_kept : t.kept ≡ after.kept
  pub book : t.run.book ≡ before.run.book
  pub batches : t.run.batches ≡ before.run.batches
  pub none_over : (l : Link) (priority : ℕ) → ¬ IsSaidOver (said ++ last) l priority

-- A run that hasn't stopped never stops, or stops at one row.
abbrev pub RunsStopOnce : Type 0
RunsStopOnce =
    (place : ℕ) (s t : KeptRunState) (rows : List (List (List ℕ))) (lines : List ℕ)
    → AreAnswered kept_run_answers place s rows lines t → s.stopped ≡ false
    → IsKeptThroughout place s rows lines t ⊎ StopsAtOneRow place s rows lines t

-- What is behind the texts of accepted rows: nothing if no write has failed, and otherwise the first
-- bytes of the text of one more row, but never its whole text.
abbrev pub IsTornEnd : Bool → List ℕ → Type 0
IsTornEnd false torn = torn ≡ []
IsTornEnd true torn =
    (s : BookRunState) × (t : BookRunState) × (fields : List (List ℕ)) × (written : ℕ) × (written < length (kept_of s fields t)) × (torn ≡ take written (kept_of s fields t))

-- Let a run answer some rows, and let a write to `keep` fail at one of them, or at none. Without its
-- torn end, what was written to `keep` makes the same book.
abbrev pub KeptRunIsTheBook : Type 0
KeptRunIsTheBook =
    (rows : List (List (List ℕ))) (lines : List ℕ) (t : KeptRunState) → AreKeptRowsAnswered rows lines t
    → (text : List ℕ) × (torn : List ℕ) × (t.kept ≡ text ++ torn) × IsTornEnd t.stopped torn × RemakesBook text (length rows) t.run
