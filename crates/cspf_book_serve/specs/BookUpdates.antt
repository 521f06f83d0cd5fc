-- Private: the state that the code keeps for the rows of a server's book.
use Rattle.std.specs.Prelude.{◌≡◌, ℕ, suc, ◌<◌, ◌⊎◌, false, Option, List, Result, Ok, Err}
use Rattle.std.proofs.Common.{inl, inr, ap}
use Rattle.cspf_model.specs.Numbered.{NumberedChanges}
use Rattle.cspf_stream.specs.RowAnswers.{AnswersOf}
use Rattle.cspf_stream.specs.StreamStops.{FailsOf}
use Rattle.cspf_serve.specs.Counted.{CountedState}
use Rattle.cspf_serve.specs.Publishing.{PublishingSpec, HasOneSource}
use Rattle.cspf_book_run.specs.BookRows.{book_row_of}
use Rattle.cspf_book_run.specs.BookScript.{BookRunState}
use Rattle.cspf_book_run.specs.BookStates.{KeepsBook, IsBookBefore}
use Rattle.cspf_book_run.specs.Kept.{text_of_row}
use Rattle.cspf_book_run.specs.KeptStates.{IsAnsweredDone, IsAnsweredOrOut, IsKeepLost, IsRowFailed, IsBookAnswerOrOut, IsBookAnswerLost, IsBookLast}
use Rattle.cspf_book_run.specs.declared.book_row.BookRow.{BookRow}
use Rattle.cspf_book_run.specs.declared.book_row_error.BookRowError.{BookRowError}
use Rattle.cspf_book_run.specs.declared.write_fault.WriteFault.{WriteFault}
use Rattle.cspf_book_run.specs.declared.write_fault.WriteFault.TheVariants as fault
use Rattle.cspf_book_serve.specs.ShownStates.{shown_spec, IsUnshownBy}
use Rattle.cspf_book_serve.specs.declared.book_updates.BookUpdates.{BookUpdates}
use Rattle.cspf_book_serve.specs.declared.shown.Shown.{Shown}

module _ {J K : Type 0} (recorded : J → Option (List ℕ)) (kept : K → Option (List ℕ)) where
  -- the row with the number `place`, counted from 1, is answered
  abbrev pub IsUpdateAnswer : AnswersOf (BookUpdates J K)
  IsUpdateAnswer place old fields line new = IsBookAnswerOrOut (shown_spec recorded kept) place old.rows fields line new.rows

  -- memory is refused at the row with the number `place`, counted from 1, and also for the line that
  -- refuses it by `memory`
  abbrev pub IsUpdateAnswerLost : FailsOf (BookUpdates J K)
  IsUpdateAnswerLost place old fields new = IsBookAnswerLost (shown_spec recorded kept) place old.rows fields new.rows

  -- How the rows of a server's book publish. Refused are rows, batches, and changes that are open at
  -- the end.
  abbrev pub book_updates_spec : PublishingSpec (BookUpdates J K) J K
  book_updates_spec = record {
    publisher = λ u. u.rows.rows.sink.keeping.counted.publisher;
    steps = λ u. u.rows.rows.sink.keeping.counted.steps;
    rest = λ u. u.rows.rows.sink.keeping.keep;
    last = λ u line. IsBookLast u.rows false line;
    refused = λ u. (0 < u.rows.rows.refused) ⊎ (0 < u.rows.rows.changes.count);
    invariant = λ u. (s : BookRunState) × KeepsBook u.rows.rows s;
  }

-- the next row is row `place`, counted from 1
abbrev pub IsUpdateBefore : {J K : Type 0} → ℕ → BookUpdates J K → Type 0
IsUpdateBefore place u = IsBookBefore place u.rows

-- ---- one source

module _ {J K : Type 0} (recorded : J → Option (List ℕ)) (kept : K → Option (List ℕ)) where
  -- the publisher's journal is the same (its source)
  abbrev HasSameSource : Shown J K → Shown J K → Type 0
  HasSameSource old new = new.counted.publisher.source ≡ old.counted.publisher.source

  same_if_kept : (old new : Shown J K) → new ≡ old → HasSameSource old new
  same_if_kept old new same = ap (λ (k : Shown J K). k.counted.publisher.source) same

  unshown_source : (old new : Shown J K) (text : List ℕ) (b : NumberedChanges) (why : WriteFault) → IsUnshownBy recorded kept old text b why new → HasSameSource old new
  unshown_source old new text b (fault.Keep written) cut = ap (λ (c : CountedState J). c.publisher.source) cut.same
  unshown_source old new text b (fault.Journal written) cut = cut.source

  failed_source : (s : BookRunState) (fields : List (List ℕ)) (row : BookRow) (line : List ℕ) (t : BookRunState) (old new : Shown J K) → IsRowFailed (shown_spec recorded kept) s fields row line t old new
      → HasSameSource old new
  failed_source s fields row line t old new f = unshown_source old new (text_of_row s fields (Ok row)) f.cut_off.0 f.why f.cut_off.2

  done_source : (place : ℕ) (s : BookRunState) (fields : List (List ℕ)) (row : Result BookRow BookRowError) (line : List ℕ) (t : BookRunState) (old new : Shown J K)
      → IsAnsweredDone (shown_spec recorded kept) place s fields row line t old new → HasSameSource old new
  done_source place s fields (Err e) line t old new (a, same) = same_if_kept old new same
  done_source place s fields (Ok row) line t old new (inl (going, taken, inl (unchanged, same))) = same_if_kept old new same
  done_source place s fields (Ok row) line t old new (inl (going, taken, inr (b, leads, shown))) = shown.source
  done_source place s fields (Ok row) line t old new (inr (inl f)) = failed_source s fields row line t old new f
  done_source place s fields (Ok row) line t old new (inr (inr (stops, taken, same))) = same_if_kept old new same

  lost_source : (s : BookRunState) (fields : List (List ℕ)) (row : Result BookRow BookRowError) (old new : Shown J K) → IsKeepLost (shown_spec recorded kept) s fields row old new → HasSameSource old new
  lost_source s fields (Err e) old new same = same_if_kept old new same
  lost_source s fields (Ok row) old new (inl same) = same_if_kept old new same
  lost_source s fields (Ok row) old new (inr (line, t, f)) = failed_source s fields row line t old new f

  said_source : (place : ℕ) (s : BookRunState) (fields : List (List ℕ)) (row : Result BookRow BookRowError) (line : List ℕ) (t : BookRunState) (old new : Shown J K)
      → IsAnsweredOrOut (shown_spec recorded kept) place s fields row line t old new → HasSameSource old new
  said_source place s fields row line t old new (inl done) = done_source place s fields row line t old new done
  said_source place s fields row line t old new (inr (out, lost)) = lost_source s fields row old new lost

-- The rows of a server's book keep the identity of the publisher's journal (its source).
pub books_have_one_source : {J K F : Type 0} (recorded : J → Option (List ℕ)) (kept : K → Option (List ℕ))
    → HasOneSource {F = F} (book_updates_spec recorded kept) (IsUpdateAnswer recorded kept) (λ fault. IsUpdateAnswerLost recorded kept)
books_have_one_source recorded kept = record {
  answered = λ before u u' fields line is a.
      let led = a.lead is.0 is.1 in
      ((led.0, led.1), said_source recorded kept (suc before) is.0 fields (book_row_of fields) line led.0 u.rows.rows.sink.keeping u'.rows.rows.sink.keeping led.2);
  failed = λ fault before u u' fields is a. lost_source recorded kept is.0 fields (book_row_of fields) u.rows.rows.sink.keeping u'.rows.rows.sink.keeping (a is.0 is.1).1;
}
