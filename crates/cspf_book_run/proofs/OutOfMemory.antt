-- What the code's rows store if memory is refused at a row.
use Rattle.std.proofs.Common.{◌≡◌, ◌+◌, ◌≤◌, ℕ, cond, List, [], Result, Ok, Err, IfOk, OnOk, inl, inr, refl, sym, ap, subst, ◌∙◌, arith}
use Rattle.cspf_model.specs.declared.batch.Change.{Change}
use Rattle.cspf_stream.specs.OpenChanges.{AreOpen}
use Rattle.cspf_stream.specs.declared.rows.Rows.{Rows}
use Rattle.cspf_book_run.specs.BookScript.{BookRunState, after_refused_base_batch}
use Rattle.cspf_book_run.specs.BookSinks.{BookSinkState}
use Rattle.cspf_book_run.specs.BookStates.{KeepsBook, BookLeads}
use Rattle.cspf_book_run.specs.KeptStates.{IsKeepLost, IsStateLost, IsAnsweredLost, IsAnsweredDone, IsAnsweredOrOut}
use Rattle.cspf_book_run.specs.Keeping.{KeepSpec}
use Rattle.cspf_book_run.specs.OutOfMemory.{name_as_read, is_batch_name, memory_line, after_memory}
use Rattle.cspf_book_run.specs.declared.book_row.BookRow.{BookRow}
use Rattle.cspf_book_run.specs.declared.book_row_error.BookRowError.{BookRowError}
use Rattle.cspf_book_run.specs.declared.row_name.RowName.{RowName}
use Rattle.cspf_book_run.specs.declared.row_name.RowName.TheVariants as name

-- What holds of a line follows from what else holds if there is a line.
pub said_with : {A E : Type 0} (r : Result A E) (P Q : A → Type 0) (B C : Type 0) → IfOk r P → OnOk r B → OnOk r C → ((a : A) → P a → B → C → Q a) → IfOk r Q
said_with (Ok a) P Q B C p b c follows = follows a p b c
said_with (Err e) P Q B C p b c follows = tt

-- The code's rows store the same state if they are equal but for what keeps the texts.
pub kept_same : {S : Type 0} (k k' : Rows (BookSinkState S)) → k'.sink.batches ≡ k.sink.batches → k'.sink.skipped ≡ k.sink.skipped → k'.changes ≡ k.changes → k'.sink.book ≡ k.sink.book
    → k'.answers ≡ k.answers → k'.refused ≡ k.refused → (s : BookRunState) → KeepsBook k s → KeepsBook k' s
kept_same k k' batches skipped changes book answers refused s kept = record {
  book = book ∙ kept.book;
  batches = batches ∙ kept.batches;
  skipped = skipped ∙ kept.skipped;
  changes = rw changes kept.changes;
  answers = answers ∙ kept.answers;
  refused = refused ∙ kept.refused;
}

module _ {S : Type 0} (spec : KeepSpec S) (fields : List (List ℕ)) where
  none_kept : (s : BookRunState) (row : Result BookRow BookRowError) (old new : S) → new ≡ old → IsKeepLost spec s fields row old new
  none_kept s (Err error) old new same = same
  none_kept s (Ok row) old new same = inl same

  same_stored : (s : BookRunState) (row : Result BookRow BookRowError) (k : Rows (BookSinkState S)) → KeepsBook k s → IsStateLost spec s row k
  same_stored s (Err error) k kept = kept
  same_stored s (Ok row) k kept = inl kept

  -- Nothing has changed.
  pub lost_same : (row : Result BookRow BookRowError) (k k' : Rows (BookSinkState S)) → k' ≡ k → IsAnsweredLost spec fields row k k'
  lost_same row k k' same s kept = (
    same_stored s row k' (subst (λ (x : Rows (BookSinkState S)). KeepsBook x s) (sym same) kept),
    none_kept s row k.sink.keeping k'.sink.keeping (ap (λ (x : Rows (BookSinkState S)). x.sink.keeping) same),
  )

  -- The same of rows of which only the sink was passed on.
  pub lost_sink : (row : Result BookRow BookRowError) (k : Rows (BookSinkState S)) (sink : BookSinkState S) → sink ≡ k.sink → IsAnsweredLost spec fields row k (record k { sink = sink })
  lost_sink row k sink same = lost_same row k (record k { sink = sink }) (ap (λ (x : BookSinkState S). record k { sink = x }) same)

  module _ (place : ℕ) (k m k' : Rows (BookSinkState S)) (called : RowName) (line : List ℕ) (line_is : line ≡ memory_line place called)
      (opens : (all : List Change) → AreOpen m.changes all → AreOpen k'.changes (cond (is_batch_name called) [] all)) (sink : k'.sink ≡ m.sink) (answers : k'.answers ≡ m.answers) (refused : k'.refused ≡ k.refused + 1) where
    -- the code's rows, if the open changes are dropped
    dropped : (s u : BookRunState) (number : ℕ) → called ≡ name.Batch number → k.refused ≡ s.refused → KeepsBook m u → u.book ≡ s.book → u.batches ≡ s.batches → u.skipped ≡ s.skipped → u.answers ≡ s.answers
        → KeepsBook k' (after_refused_base_batch s)
    dropped s u number is counted stored book batches skipped answered = record {
      book = ap (λ (x : BookSinkState S). x.book) sink ∙ stored.book ∙ book;
      batches = ap (λ (x : BookSinkState S). x.batches) sink ∙ stored.batches ∙ batches;
      skipped = ap (λ (x : BookSinkState S). x.skipped) sink ∙ stored.skipped ∙ skipped;
      changes = subst (λ (x : RowName). AreOpen k'.changes (cond (is_batch_name x) [] u.changes)) is (opens u.changes stored.changes);
      answers = answers ∙ stored.answers ∙ answered;
      refused = refused ∙ ap (λ n. n + 1) counted;
    }

    stored_after : (s : BookRunState) (x : RowName) → called ≡ x → k.refused ≡ s.refused → KeepsBook m s → KeepsBook k' (after_memory s x)
    stored_after s (name.Batch number) is counted stored = dropped s s number is counted stored refl refl refl refl
    stored_after s other is counted stored = record {
      book = ap (λ (x : BookSinkState S). x.book) sink ∙ stored.book;
      batches = ap (λ (x : BookSinkState S). x.batches) sink ∙ stored.batches;
      skipped = ap (λ (x : BookSinkState S). x.skipped) sink ∙ stored.skipped;
      changes = subst (λ (x : RowName). AreOpen k'.changes (cond (is_batch_name x) [] s.changes)) is (opens s.changes stored.changes);
      answers = answers ∙ stored.answers;
      refused = refused ∙ ap (λ n. n + 1) counted;
    }

    state_after : (s : BookRunState) (row : Result BookRow BookRowError) → called ≡ name_as_read row → k.refused ≡ s.refused → IsStateLost spec s row m → KeepsBook k' (after_memory s called)
    state_after s (Err error) is counted stored = stored_after s called refl counted stored
    state_after s (Ok row) is counted (inl stored) = stored_after s called refl counted stored
    state_after s (Ok row) is counted (inr (number, batch, stored)) =
        subst (λ (x : RowName). KeepsBook k' (after_memory s x)) (sym (is ∙ batch)) (dropped s (after_refused_base_batch s) number (is ∙ batch) counted stored refl refl refl refl)

    kept_after : (s : BookRunState) (row : Result BookRow BookRowError) → IsKeepLost spec s fields row k.sink.keeping m.sink.keeping → IsKeepLost spec s fields row k.sink.keeping k'.sink.keeping
    kept_after s row lost = subst (λ (x : S). IsKeepLost spec s fields row k.sink.keeping x) (sym (ap (λ (x : BookSinkState S). x.keeping) sink)) lost

    -- If memory is refused while a row is answered, and the code then refuses the row by `memory`, the
    -- row is answered as `IsAnsweredOrOut` states.
    pub refused_out : (row : Result BookRow BookRowError) → called ≡ name_as_read row → IsAnsweredLost spec fields row k m
        → BookLeads k k' (λ s t. IsAnsweredOrOut spec place s fields row line t k.sink.keeping k'.sink.keeping)
    refused_out row is lost s kept =
        let was = lost s kept in (
          after_memory s called,
          state_after s row is kept.refused was.0,
          inr (record { called = called; name = inr is; line_is = line_is; after = refl }, kept_after s row was.1),
        )

    -- The same of a row whose fields weren't read.
    pub unread_out : (row : Result BookRow BookRowError) → called ≡ name.Row → m ≡ k → BookLeads k k' (λ s t. IsAnsweredOrOut spec place s fields row line t k.sink.keeping k'.sink.keeping)
    unread_out row is same s kept =
        let stored : KeepsBook m s = subst (λ (x : Rows (BookSinkState S)). KeepsBook x s) (sym same) kept in (
          after_memory s called,
          stored_after s called refl kept.refused stored,
          inr (
            record { called = called; name = inl is; line_is = line_is; after = refl },
            kept_after s row (none_kept s row k.sink.keeping m.sink.keeping (ap (λ (x : Rows (BookSinkState S)). x.sink.keeping) same)),
          ),
        )

  -- A row that is answered is answered as `IsAnsweredOrOut` states.
  pub answered_in : (place : ℕ) (row : Result BookRow BookRowError) (line : List ℕ) (k k' : Rows (BookSinkState S)) → BookLeads k k' (λ s t. IsAnsweredDone spec place s fields row line t k.sink.keeping k'.sink.keeping)
      → BookLeads k k' (λ s t. IsAnsweredOrOut spec place s fields row line t k.sink.keeping k'.sink.keeping)
  answered_in place row line k k' lead s kept = let led = lead s kept in (led.0, led.1, inl led.2)
