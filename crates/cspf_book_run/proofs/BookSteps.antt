-- The state of a run after a row of the base: a change, an end row or a request.
use Rattle.std.proofs.Common.{◌≡◌, ◌==◌, ◌⊎◌, ℕ, ◌+◌, ◌-◌, true, false, List, [], ◌∷◌, ◌++◌, length, Ok, inl, inr, refl, sym, ap, subst, ◌∙◌, arith}
use Rattle.std.proofs.lemmas.Bool.{cases_Bool, eqb-true}
use Rattle.std.specs.List.{flat_map}
use Rattle.cspf_model.specs.Changes.{Fits, after_changes}
use Rattle.cspf_model.specs.Laws.{RefusedIsUnfit}
use Rattle.cspf_model.specs.Numbered.{NumberedChanges}
use Rattle.cspf_model.specs.declared.batch.Change.{Change}
use Rattle.cspf_rows.specs.BatchText.{batch_text}
use Rattle.cspf_rows.specs.Steps.{step_of}
use Rattle.cspf_rows.specs.declared.row.Row.{Row}
use Rattle.cspf_rows.specs.declared.row.Row.TheVariants as row_kind
use Rattle.cspf_rows.specs.declared.step.Step.{Step}
use Rattle.cspf_rows.specs.declared.step.Step.TheVariants as step
use Rattle.cspf_stream.specs.EndRows.{IsRightEnd, IsStoppedOrWrong}
use Rattle.cspf_stream.specs.Lines.{refused_batch_line}
use Rattle.cspf_stream.specs.OpenChanges.{AreOpen}
use Rattle.cspf_stream.specs.RowsTaken.{RowsState, KeepsRows, RowsLead, IsEndAccepted, IsEndRefused, IsBatchDropped, IsStepTaken, IsStepLost}
use Rattle.cspf_stream.specs.declared.batch_refusal.BatchRefusal.{BatchRefusal}
use Rattle.cspf_stream.specs.declared.batch_refusal.BatchRefusal.TheVariants as refusal
use Rattle.cspf_stream.specs.declared.rows.Rows.{Rows}
use Rattle.cspf_stream.proofs.BatchRefusals.{IsNotAccepted, wrong_end, unfit_end}
use Rattle.cspf_book.specs.LostRoutes.{AreLost}
use Rattle.cspf_book.specs.OverLinks.{over}
use Rattle.cspf_book.specs.declared.over.Over.{Over}
use Rattle.cspf_book.specs.BookState.{BookState}
use Rattle.cspf_book_run.specs.declared.book_row.BookRow.TheVariants as book_row
use Rattle.cspf_book_run.specs.BookLines.{over_line, lost_line, base_line}
use Rattle.cspf_book_run.specs.BookScript.{BookRunState, AreBaseLines, IsBookStepAnswered, after_answer, after_base_batch, after_open_change, after_refused_base_batch}
use Rattle.cspf_book_run.specs.BookSinks.{IsBatchCut, BookSinkState, book_spec, book_state_with}
use Rattle.cspf_book_run.specs.BookStates.{KeepsBook, BookLeads}
use Rattle.cspf_book_run.specs.Kept.{text_of_step}
use Rattle.cspf_book_run.specs.KeptRuns.{IsEndUnkept, IsStepStopped}
use Rattle.cspf_book_run.specs.KeptStates.{IsRowDone, IsRowFailed, IsStateLost, IsAnsweredLost}
use Rattle.cspf_book_run.specs.Keeping.{KeepSpec, IsCutWith, IsKeptIfNew}
use Rattle.cspf_book_run.specs.WriteFaultWords.{batch_refusal_of}
use Rattle.cspf_book_run.specs.declared.write_fault.WriteFault.{WriteFault}
use Rattle.cspf_book_run.specs.declared.write_fault.WriteFault.TheVariants as fault

-- A base batch whose text isn't kept is refused for this reason.
pub batch_cut : {S : Type 0} (spec : KeepSpec S) (old : BookSinkState S) (b : NumberedChanges) (why : WriteFault) (new : BookSinkState S) → IsBatchCut spec old b why new
    → new.book ≡ old.book → new.batches ≡ old.batches → new.skipped ≡ old.skipped → (book_spec spec).refuses old b (batch_refusal_of why) new
batch_cut spec old b (fault.Keep written) new cut book batches skipped = (cut, book, batches, skipped)
batch_cut spec old b (fault.Journal written) new cut book batches skipped = (cut, book, batches, skipped)

-- The lines that the code makes of the stored changes are the lines of the base batch.
pub base_lines_are : {S : Type 0} (sink : BookSinkState S) (number n version : ℕ) (kept all : List Change) (overs : List Over) (ids lines : List ℕ) → kept ≡ all → n ≡ number → version ≡ sink.book.version + 1 - sink.skipped
    → overs ≡ over sink.book.placements kept → AreLost sink.book.base (after_changes sink.book.base kept) sink.book.placements ids
    → lines ≡ flat_map over_line overs ++ flat_map lost_line ids ++ base_line n version → AreBaseLines (book_state_with sink all) number lines
base_lines_are sink number n version kept all overs ids lines same numbered versioned are_over are_lost are_lines =
    (ids, rw same at are_lost, are_lines ∙ rw (are_over, same, numbered, versioned) refl)

pub another_version : (old new : ℕ) → new ≡ old + 1 → (new == old) ≡ false
another_version old new rises = elim (cases_Bool (new == old)) [ inl same ↦ absurd (omega (arith, eqb-true new old same, rises)) | inr other ↦ other ]

-- The state `r` of the code's rows agrees with the state `s` of the run.
pub record IsOfRun {S : Type 0} (r : RowsState (BookSinkState S)) (s : BookRunState) : Type 0 where
  pub book : r.sink.book ≡ s.book
  pub batches : r.sink.batches ≡ s.batches
  pub skipped : r.sink.skipped ≡ s.skipped
  pub changes : r.changes ≡ s.changes
  pub answers : r.answers ≡ s.answers
  pub refused : r.refused ≡ s.refused

-- `Says` holds for a state `after` of the run, with which the state `t` of the code's rows agrees.
abbrev Answered : {S : Type 0} → (BookRunState → Type 0) → RowsState (BookSinkState S) → Type 0
Answered Says t = (after : BookRunState) × IsOfRun t after × Says after

module _ {S : Type 0} (spec : KeepSpec S) where
  -- The row of the base would be accepted, but its text isn't kept, so it is refused.
  record IsStepFailed (s : BookRunState) (asked : Step) (line : List ℕ) (t : BookRunState) (old new : S) : Type 0 where
    why : WriteFault
    lines : List ℕ
    next : BookRunState
    going : spec.stopped old ≡ false
    accepted : IsBookStepAnswered s asked lines next
    cut_off : IsCutWith spec s.book next.book why old (text_of_step s asked) new
    refused : IsEndUnkept (batch_refusal_of why) s asked line t

  -- The row of the base is answered. If it makes a new version, its text is kept. Or its text isn't
  -- kept, or it was stopped earlier.
  abbrev IsStepDone : BookRunState → Step → List ℕ → BookRunState → S → S → Type 0
  IsStepDone s asked line t old new =
      ((spec.stopped old ≡ false) × IsBookStepAnswered s asked line t × IsKeptIfNew spec s.book t.book old (text_of_step s asked) new)
      ⊎ (IsStepFailed s asked line t old new ⊎ ((spec.stopped old ≡ true) × IsStepStopped s asked line t × (new ≡ old)))

  as_row : (s t : BookRunState) (fields : List (List ℕ)) (row : Row) (line : List ℕ) (old new : S) → IsStepDone s (step_of row) line t old new
      → IsRowDone spec s fields (book_row.Base row) line t old new
  as_row s t fields row line old new (inl a) = inl a
  as_row s t fields row line old new (inr (inl f)) =
      inr (inl (record { why = f.why; lines = f.lines; next = f.next; going = f.going; accepted = f.accepted; cut_off = f.cut_off; refused = f.refused }))
  as_row s t fields row line old new (inr (inr a)) = inr (inr a)

  -- A row that leaves the book unchanged is answered in the same way, whether or not it was stopped.
  either : (s t : BookRunState) (asked : Step) (line : List ℕ) (old new : S) → t.book ≡ s.book → new ≡ old → IsBookStepAnswered s asked line t → IsStepStopped s asked line t
      → IsStepDone s asked line t old new
  either s t asked line old new book same answered stopped = elim (cases_Bool (spec.stopped old)) [
    | inl stops ↦ inr (inr (stops, stopped, same))
    | inr going ↦ inl (going, answered, inl (book, same))
  ]

  module _ (unfit : RefusedIsUnfit) (r t : RowsState (BookSinkState S)) (s : BookRunState) (of : IsOfRun r s) (number count : ℕ) (line : List ℕ) where
    abbrev old : S
    old = r.sink.keeping

    abbrev batch : NumberedChanges
    batch = record { number = number; changes = r.changes }

    -- The end row is right and its batch fits, so the batch can be accepted with these lines.
    acceptable : (lines : List ℕ) → IsRightEnd (spec.stopped old) r.sink.book.version (r.sink.batches + 1) number count (length r.changes) → Fits r.sink.book.base batch
        → AreBaseLines (book_state_with r.sink r.changes) number lines → IsBookStepAnswered s (step.End number count) lines (after_base_batch s)
    acceptable lines right fits base = inl (
      record {
        room = rw of.book at right.room;
        next = rw of.batches at right.next;
        counted = right.counted ∙ ap length of.changes;
        fits = rw (of.book, of.changes) at fits;
      },
      rw (of.book, of.changes, of.skipped) at base,
      refl,
    )

    accepted : IsEndAccepted (book_spec spec) r number count line t → Answered (λ after. IsStepDone s (step.End number count) line after old t.sink.keeping) t
    accepted a =
        let right = a.taken.0 in
        let takes = a.taken.1 in (
          after_base_batch s,
          record {
            book = rw (of.book, of.changes) at takes.2;
            batches = takes.3 ∙ ap (λ n. n + 1) of.batches;
            skipped = takes.4 ∙ of.skipped;
            changes = ap (λ (x : RowsState (BookSinkState S)). x.changes) a.after;
            answers = ap (λ (x : RowsState (BookSinkState S)). x.answers) a.after ∙ of.answers;
            refused = ap (λ (x : RowsState (BookSinkState S)). x.refused) a.after ∙ of.refused;
          },
          inl (right.going, acceptable line right takes.0 takes.1, inr (rw (of.book, of.changes) at takes.5)),
        )

    -- A refused batch leaves the book unchanged.
    unchanged : (why : BatchRefusal) (sink : BookSinkState S) → IsBatchDropped (book_spec spec) r.sink number count r.changes why sink
        → (sink.book ≡ r.sink.book) × (sink.batches ≡ r.sink.batches) × (sink.skipped ≡ r.sink.skipped)
    unchanged why sink (inl (wrong, same)) =
        (ap (λ (x : BookSinkState S). x.book) same, ap (λ (x : BookSinkState S). x.batches) same, ap (λ (x : BookSinkState S). x.skipped) same)
    unchanged why sink (inr (right, (unkept, book, batches, skipped))) = (book, batches, skipped)

    -- The batch is refused for a reason of the book.
    unaccepted : (why : BatchRefusal) (new : S) → spec.stopped old ≡ false → IsNotAccepted s.book.version (s.batches + 1) s.changes s.book.base number count why → new ≡ old
        → line ≡ refused_batch_line number why → IsStepDone s (step.End number count) line (after_refused_base_batch s) old new
    unaccepted why new going is same line_is = inl (
      going,
      inr (why, is.0, is.1, line_is, refl),
      inl (refl, same),
    )

    -- The batch's text isn't kept.
    failed : (why : WriteFault) (new : S) (lines : List ℕ) → IsRightEnd (spec.stopped old) r.sink.book.version (r.sink.batches + 1) number count (length r.changes) → Fits r.sink.book.base batch
        → AreBaseLines (book_state_with r.sink r.changes) number lines → IsCutWith spec r.sink.book (after_base_batch (book_state_with r.sink r.changes)).book why old (batch_text batch) new
        → line ≡ refused_batch_line number (batch_refusal_of why) → IsStepFailed s (step.End number count) line (after_refused_base_batch s) old new
    failed why new lines right fits base cut line_is = record {
      why = why;
      lines = lines;
      next = after_base_batch s;
      going = right.going;
      accepted = acceptable lines right fits base;
      cut_off = rw (of.book, of.changes) at cut;
      refused = (line_is, refl);
    }

    dropped : (why : BatchRefusal) (sink : BookSinkState S) → IsBatchDropped (book_spec spec) r.sink number count r.changes why sink → line ≡ refused_batch_line number why
        → IsStepDone s (step.End number count) line (after_refused_base_batch s) old sink.keeping
    dropped refusal.Stopped sink (inl (stops, same)) is = inr (inr (stops, (is, refl), ap (λ (x : BookSinkState S). x.keeping) same))
    dropped why sink (inl ((going, wrong), same)) is =
        let both : IsStoppedOrWrong (spec.stopped old) r.sink.book.version (r.sink.batches + 1) number count (length r.changes) why = (going, wrong) in
        let by_changes = subst (λ (cs : List Change). IsStoppedOrWrong (spec.stopped old) r.sink.book.version (r.sink.batches + 1) number count (length cs) why) of.changes both in
        let by_batches = subst (λ (n : ℕ). IsStoppedOrWrong (spec.stopped old) r.sink.book.version (n + 1) number count (length s.changes) why) of.batches by_changes in
        unaccepted why sink.keeping going
        (wrong_end s.book.version (s.batches + 1) s.changes s.book.base number count (spec.stopped old) why going
        (subst (λ (b : BookState). IsStoppedOrWrong (spec.stopped old) b.version (s.batches + 1) number count (length s.changes) why) of.book by_batches))
        (ap (λ (x : BookSinkState S). x.keeping) same) is
    dropped (refusal.Unfit why) sink (inr (right, ((refuses, same), book, batches, skipped))) is =
        unaccepted (refusal.Unfit why) sink.keeping right.going
        (unfit_end s.book.version (s.batches + 1) s.changes s.book.base number count unfit (spec.stopped old) why (rw (of.book, of.batches, of.changes) at right) (rw (of.book, of.changes) at refuses))
        same is
    dropped (refusal.Keep written) sink (inr (right, ((fits, lines, base, cut), book, batches, skipped))) is = inr (inl (failed (fault.Keep written) sink.keeping lines right fits base cut is))
    dropped (refusal.Journal written) sink (inr (right, ((fits, lines, base, cut), book, batches, skipped))) is =
        inr (inl (failed (fault.Journal written) sink.keeping lines right fits base cut is))
    dropped other sink (inr (right, (none, book, batches, skipped))) is = absurd none

    -- If memory is refused for the line of a refused batch, nothing is kept, or the batch's text isn't
    -- kept.
    lost : (why : BatchRefusal) (sink : BookSinkState S) → IsBatchDropped (book_spec spec) r.sink number count r.changes why sink → line ≡ refused_batch_line number why
        → (sink.keeping ≡ old) ⊎ IsStepFailed s (step.End number count) line (after_refused_base_batch s) old sink.keeping
    lost why sink (inl (wrong, same)) is = inl (ap (λ (x : BookSinkState S). x.keeping) same)
    lost (refusal.Unfit why) sink (inr (right, ((refuses, same), book, batches, skipped))) is = inl same
    lost (refusal.Keep written) sink (inr (right, ((fits, lines, base, cut), book, batches, skipped))) is = inr (failed (fault.Keep written) sink.keeping lines right fits base cut is)
    lost (refusal.Journal written) sink (inr (right, ((fits, lines, base, cut), book, batches, skipped))) is = inr (failed (fault.Journal written) sink.keeping lines right fits base cut is)
    lost other sink (inr (right, (none, book, batches, skipped))) is = absurd none

    refused : IsEndRefused (book_spec spec) r number count line t → Answered (λ after. IsStepDone s (step.End number count) line after old t.sink.keeping) t
    refused a =
        let same = unchanged a.why t.sink a.dropped in (
          after_refused_base_batch s,
          record {
            book = same.0 ∙ of.book;
            batches = same.1 ∙ of.batches;
            skipped = same.2 ∙ of.skipped;
            changes = ap (λ (x : RowsState (BookSinkState S)). x.changes) a.after;
            answers = ap (λ (x : RowsState (BookSinkState S)). x.answers) a.after ∙ of.answers;
            refused = ap (λ (x : RowsState (BookSinkState S)). x.refused) a.after ∙ ap (λ n. n + 1) of.refused;
          },
          dropped a.why t.sink a.dropped a.line_is,
        )

  changed : (r : RowsState (BookSinkState S)) (s : BookRunState) (c : Change) → IsOfRun r s → IsOfRun (record r { changes = r.changes ++ c ∷ [] }) (after_open_change s c)
  changed r s c of = record { book = of.book; batches = of.batches; skipped = of.skipped; changes = ap (λ cs. cs ++ c ∷ []) of.changes; answers = of.answers; refused = of.refused }

  replied : (r : RowsState (BookSinkState S)) (s : BookRunState) → IsOfRun r s → IsOfRun (record r { answers = r.answers + 1 }) (after_answer s s.book)
  replied r s of = record { book = of.book; batches = of.batches; skipped = of.skipped; changes = of.changes; answers = ap (λ n. n + 1) of.answers; refused = of.refused }

  step_taken : RefusedIsUnfit → (r t : RowsState (BookSinkState S)) (s : BookRunState) (asked : Step) (line : List ℕ) → IsOfRun r s → IsStepTaken (book_spec spec) r asked line t
      → Answered (λ after. IsStepDone s asked line after r.sink.keeping t.sink.keeping) t
  step_taken unfit r t s (step.Change c) line of a =
      let after = after_open_change s c in
      let same = ap (λ (x : RowsState (BookSinkState S)). x.sink.keeping) a.1 in
      (after, rw a.1 (changed r s c of), either s after (step.Change c) line r.sink.keeping t.sink.keeping refl same (a.0, refl) (a.0, refl))
  step_taken unfit r t s (step.End number count) line of (inl a) = accepted unfit r t s of number count line a
  step_taken unfit r t s (step.End number count) line of (inr a) = refused unfit r t s of number count line a
  step_taken unfit r t s (step.Ask q) line of a =
      let after = after_answer s s.book in
      let same = ap (λ (x : RowsState (BookSinkState S)). x.sink.keeping) a.1 in
      let answered : IsBookStepAnswered s (step.Ask q) line after = (a.0.0, rw of.book at a.0.1, rw (of.book, of.skipped) at a.0.2, refl) in
      (after, rw a.1 (replied r s of), either s after (step.Ask q) line r.sink.keeping t.sink.keeping refl same answered answered)

  step_lost : RefusedIsUnfit → (r t : RowsState (BookSinkState S)) (s : BookRunState) (asked : Step) → IsOfRun r s → IsStepLost (book_spec spec) r asked t
      → (t.sink.keeping ≡ r.sink.keeping) ⊎ ((line : List ℕ) × (after : BookRunState) × IsStepFailed s asked line after r.sink.keeping t.sink.keeping)
  step_lost unfit r t s (step.End number count) of (inl same) = inl (ap (λ (x : RowsState (BookSinkState S)). x.sink.keeping) same)
  step_lost unfit r t s (step.End number count) of (inr (line, a)) = elim (lost unfit r t s of number count line a.why t.sink a.dropped a.line_is) [
    | inl same ↦ inl same
    | inr fails ↦ inr (line, after_refused_base_batch s, fails)
  ]
  step_lost unfit r t s other of same = inl (ap (λ (x : RowsState (BookSinkState S)). x.sink.keeping) same)

  -- the state of the code's rows, if they store the state `s` of the run
  abbrev stored : Rows (BookSinkState S) → BookRunState → RowsState (BookSinkState S)
  stored k s = record { sink = k.sink; changes = s.changes; answers = k.answers; refused = k.refused }

  stored_is : (k : Rows (BookSinkState S)) (s : BookRunState) → KeepsBook k s → IsOfRun (stored k s) s
  stored_is k s kept = record { book = kept.book; batches = kept.batches; skipped = kept.skipped; changes = refl; answers = kept.answers; refused = kept.refused }

  -- The code's rows store what the rows of the base lead to.
  as_kept : (k : Rows (BookSinkState S)) (t : RowsState (BookSinkState S)) (s : BookRunState) → KeepsRows k t → IsOfRun t s → KeepsBook k s
  as_kept k t s rows of = record {
    book = ap (λ (x : BookSinkState S). x.book) rows.sink ∙ of.book;
    batches = ap (λ (x : BookSinkState S). x.batches) rows.sink ∙ of.batches;
    skipped = ap (λ (x : BookSinkState S). x.skipped) rows.sink ∙ of.skipped;
    changes = subst (λ cs. AreOpen k.changes cs) of.changes rows.changes;
    answers = rows.answers ∙ of.answers;
    refused = rows.refused ∙ of.refused;
  }

  -- If the code's rows do what a row of the base asks for, as `IsStepTaken` of `cspf_stream` states,
  -- the row is answered as `IsRowDone` states for a run.
  pub base_row : RefusedIsUnfit → (k k' : Rows (BookSinkState S)) (fields : List (List ℕ)) (row : Row) (line : List ℕ) → RowsLead k k' (λ r t. IsStepTaken (book_spec spec) r (step_of row) line t)
      → BookLeads k k' (λ s t. IsRowDone spec s fields (book_row.Base row) line t k.sink.keeping k'.sink.keeping)
  base_row unfit k k' fields row line lead s kept =
      let led = lead (stored k s) (record { sink = refl; changes = kept.changes; answers = refl; refused = refl }) in
      let a = step_taken unfit (stored k s) led.0 s (step_of row) line (stored_is k s kept) led.2 in
      let same = ap (λ (x : BookSinkState S). x.keeping) led.1.sink in (
        a.0,
        as_kept k' led.0 a.0 led.1 a.1,
        subst (λ (x : S). IsRowDone spec s fields (book_row.Base row) line a.0 k.sink.keeping x) (sym same)
            (as_row s a.0 fields row line k.sink.keeping led.0.sink.keeping a.2),
      )

  same_kept : (k : Rows (BookSinkState S)) (r t : RowsState (BookSinkState S)) (s : BookRunState) → KeepsRows k t → IsOfRun r s → t ≡ r → KeepsBook k s
  same_kept k r t s rows of same = as_kept k t s rows (subst (λ (x : RowsState (BookSinkState S)). IsOfRun x s) (sym same) of)

  state_lost : RefusedIsUnfit → (k : Rows (BookSinkState S)) (r t : RowsState (BookSinkState S)) (s : BookRunState) (row : Row) → KeepsRows k t → IsOfRun r s → IsStepLost (book_spec spec) r (step_of row) t
      → IsStateLost spec s (Ok (book_row.Base row)) k
  unfolding refused
  state_lost unfit k r t s (row_kind.End number count) rows of (inl same) = inl (same_kept k r t s rows of same)
  state_lost unfit k r t s (row_kind.End number count) rows of (inr (line, a)) = inr (number, refl, as_kept k t (after_refused_base_batch s) rows (refused unfit r t s of number count line a).1)
  state_lost unfit k r t s (row_kind.Put link) rows of same = inl (same_kept k r t s rows of same)
  state_lost unfit k r t s (row_kind.Remove from local) rows of same = inl (same_kept k r t s rows of same)
  state_lost unfit k r t s (row_kind.Node router transit) rows of same = inl (same_kept k r t s rows of same)
  state_lost unfit k r t s (row_kind.Ask q) rows of same = inl (same_kept k r t s rows of same)

  pub base_lost : RefusedIsUnfit → (k k' : Rows (BookSinkState S)) (fields : List (List ℕ)) (row : Row) → RowsLead k k' (λ r t. IsStepLost (book_spec spec) r (step_of row) t)
      → IsAnsweredLost spec fields (Ok (book_row.Base row)) k k'
  base_lost unfit k k' fields row lead s kept =
      let led = lead (stored k s) (record { sink = refl; changes = kept.changes; answers = refl; refused = refl }) in
      let same = ap (λ (x : BookSinkState S). x.keeping) led.1.sink in (
        state_lost unfit k' (stored k s) led.0 s row led.1 (stored_is k s kept) led.2,
        elim (step_lost unfit (stored k s) led.0 s (step_of row) (stored_is k s kept) led.2) [
          | inl none ↦ inl (same ∙ none)
          | inr fails ↦
              let f = fails.2 in
              inr (
                fails.0,
                fails.1,
                subst (λ (x : S). IsRowFailed spec s fields (book_row.Base row) fails.0 fails.1 k.sink.keeping x) (sym same)
                    (record { why = f.why; lines = f.lines; next = f.next; going = f.going; accepted = f.accepted; cut_off = f.cut_off; refused = f.refused }),
              )
        ],
      )
