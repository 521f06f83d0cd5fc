-- A write to the writer `keep` fails at no row of a run, or at one row. After this row nothing
-- changes in the book.
use Rattle.std.proofs.Common.{◌≡◌, ℕ, suc, ◌+◌, ◌≤◌, true, false, List, [], ◌∷◌, ◌++◌, codes, length, length-append, take, Option, Result, Ok, Err, inl, inr, refl, sym, ap, subst, ◌∙◌, append_assoc, append-nil, arith}
use Rattle.std.proofs.lemmas.Bool.{false≢true}
use Rattle.cspf_rows.specs.Steps.{step_of}
use Rattle.cspf_rows.specs.declared.step.Step.{Step}
use Rattle.cspf_rows.specs.declared.step.Step.TheVariants as step
use Rattle.cspf_stream.specs.BatchWords.{batch_words}
use Rattle.cspf_stream.specs.RowAnswers.{AreAnswered}
use Rattle.cspf_stream.specs.declared.batch_refusal.BatchRefusal.{BatchRefusal}
use Rattle.cspf_stream.specs.declared.batch_refusal.BatchRefusal.TheVariants as refusal
use Rattle.cspf_book_run.specs.declared.book_row.BookRow.{BookRow}
use Rattle.cspf_book_run.specs.declared.book_row.BookRow.TheVariants as book_row
use Rattle.cspf_book_run.specs.declared.book_row_error.BookRowError.{BookRowError}
use Rattle.cspf_book_run.proofs.Looks.{Looks, shown_looks, left_looks, look_same}
use Rattle.cspf_book_run.specs.BookLines.{place_words, release_words}
use Rattle.cspf_book_run.specs.PlacementLines.{held_words}
use Rattle.cspf_book.specs.declared.link_figures.LinkFigures.{LinkFigures}
use Rattle.cspf_book.specs.declared.placement.Placement.{Placement}
use Rattle.cspf_book.specs.LinkFigures.{figures_at}
use Rattle.cspf_book.specs.Placements.{id_of, placement_of}
use Rattle.cspf_book_run.specs.BookRows.{book_row_of}
use Rattle.cspf_book_run.specs.BookScript.{BookRunState, changers, after_refusal}
use Rattle.cspf_book_run.specs.Kept.{kept_of}
use Rattle.cspf_book_run.specs.KeptLaws.{IsKeptThroughout, StopsAtOneRow, RunsStopOnce, KeptIsTheBook, KeptRunIsTheBook, RemakesBook}
use Rattle.cspf_book_run.specs.KeptRuns.{KeptRunState, RowRefusals, by_stopped, by_fault, kept_start, kept_run_answers, stopped_answers, IsEndUnkept, IsRowUnkept, IsStepStopped, IsAnsweredStopped, IsRowWritten, IsRowCutOff}
use Rattle.cspf_book_run.proofs.KeptOnce.{stays_stopped}
use Rattle.cspf_book_run.proofs.OverOnly.{skips_refused, skips_batch, skips_unplaced, skips_unreleased, skips_unheld, skips_look, skips_room, step_says, row_says, says_none_over}
use Rattle.cspf_book_run.proofs.OverTexts.{Skips, skips_none, skips_append}
use Rattle.cspf_book_run.specs.declared.write_fault.WriteFault.TheVariants as fault

-- ---- rows that leave the book unchanged

-- The book is unchanged, and no `ov` starts within the line (`Skips`).
abbrev LeavesBook : BookRunState → BookRunState → List ℕ → Type 0
LeavesBook s t line = (t.book ≡ s.book) × (t.batches ≡ s.batches) × Skips line

end_leaves : (why : BatchRefusal) (s t : BookRunState) (asked : Step) (line : List ℕ) → IsEndUnkept why s asked line t → LeavesBook s t line
end_leaves why s t (step.End number count) line (line_is, after) = (
  ap (λ (x : BookRunState). x.book) after,
  ap (λ (x : BookRunState). x.batches) after,
  subst Skips (sym line_is) (skips_refused (codes "batch ") (batch_words why) number refl (skips_batch why)),
)
end_leaves why s t other line a = absurd a

refusal_leaves : (s t : BookRunState) (line text : List ℕ) → line ≡ text → t ≡ after_refusal s → Skips text → LeavesBook s t line
refusal_leaves s t line text line_is after skips =
    (ap (λ (x : BookRunState). x.book) after, ap (λ (x : BookRunState). x.batches) after, subst Skips (sym line_is) skips)

unkept_leaves : (why : RowRefusals) (s t : BookRunState) (row : BookRow) (line : List ℕ) → IsRowUnkept why s row line t → LeavesBook s t line
unkept_leaves why s t (book_row.Base row) line a = end_leaves why.batch s t (step_of row) line a
unkept_leaves why s t (book_row.Place q hold) line (line_is, after) =
    refusal_leaves s t line _ line_is after (skips_refused (codes "place ") (place_words why.place) q.id refl (skips_unplaced why.place))
unkept_leaves why s t (book_row.Release id) line (line_is, after) =
    refusal_leaves s t line _ line_is after (skips_refused (codes "release ") (release_words why.release) id refl (skips_unreleased why.release))
unkept_leaves why s t (book_row.Held p) line (line_is, after) =
    refusal_leaves s t line _ line_is after (skips_refused (codes "held ") (held_words why.held) (id_of p) refl (skips_unheld why.held))
unkept_leaves why s t (book_row.Offer q hold) line (line_is, after) =
    refusal_leaves s t line _ line_is after (skips_refused (codes "offer ") (place_words why.place) q.id refl (skips_unplaced why.place))
unkept_leaves why s t other line a = absurd a

looked_leaves : (s t : BookRunState) (line : List ℕ) → Looks s t → Skips line → LeavesBook s t line
looked_leaves s t line look skips =
    (look_same (λ (x : BookRunState). x.book) s t refl look, look_same (λ (x : BookRunState). x.batches) s t refl look, skips)

step_leaves : (s t : BookRunState) (asked : Step) (line : List ℕ) → IsStepStopped s asked line t → LeavesBook s t line
step_leaves s t (step.Change c) line a =
    (ap (λ (x : BookRunState). x.book) a.1, ap (λ (x : BookRunState). x.batches) a.1, (step_says s t (step.Change c) line a).1 (ap changers a.1))
step_leaves s t (step.End number count) line a = end_leaves refusal.Stopped s t (step.End number count) line a
step_leaves s t (step.Ask q) line a =
    (ap (λ (x : BookRunState). x.book) a.3, ap (λ (x : BookRunState). x.batches) a.3, (step_says s t (step.Ask q) line a).1 (ap changers a.3))

row_leaves : (place : ℕ) (s t : BookRunState) (row : Result BookRow BookRowError) (line : List ℕ) → IsAnsweredStopped place s row line t → LeavesBook s t line
row_leaves place s t (Err e) line a =
    (ap (λ (x : BookRunState). x.book) a.1, ap (λ (x : BookRunState). x.batches) a.1, (row_says place s t (Err e) line a).1 (ap changers a.1))
row_leaves place s t (Ok (book_row.Base row)) line a = step_leaves s t (step_of row) line a
row_leaves place s t (Ok (book_row.Show id)) line a =
    let found : Option Placement = placement_of id s.book.placements in
    looked_leaves s t line (shown_looks s t id found line a) (skips_look s t id found line a)
row_leaves place s t (Ok (book_row.Left from local)) line a =
    let found : Option LinkFigures = figures_at s.book.base s.book.placements (from, local) in
    looked_leaves s t line (left_looks s t (from, local) found line a) (skips_room s t (from, local) found line a)
row_leaves place s t (Ok (book_row.Place q hold)) line a = unkept_leaves by_stopped s t (book_row.Place q hold) line a
row_leaves place s t (Ok (book_row.Release id)) line a = unkept_leaves by_stopped s t (book_row.Release id) line a
row_leaves place s t (Ok (book_row.Held p)) line a = unkept_leaves by_stopped s t (book_row.Held p) line a
row_leaves place s t (Ok (book_row.Offer q hold)) line a = unkept_leaves by_stopped s t (book_row.Offer q hold) line a

rows_leave : (place : ℕ) (s t : BookRunState) (rows : List (List (List ℕ))) (lines : List ℕ) → AreAnswered stopped_answers place s rows lines t → LeavesBook s t lines
unfolding AreAnswered
rows_leave place s t [] lines a = (ap (λ (x : BookRunState). x.book) a.1, ap (λ (x : BookRunState). x.batches) a.1, subst Skips (sym a.0) skips_none)
rows_leave place s t (fields ∷ rows) lines a =
    let first = row_leaves place s a.1 (book_row_of fields) a.0 a.3 in
    let rest = rows_leave (suc place) a.1 t rows a.2 a.5 in
    (rest.0 ∙ first.0, rest.1 ∙ first.1, subst Skips (sym a.4) (skips_append a.0 a.2 first.2 rest.2))

-- ---- the one row at which a run stops

-- After a write has failed, the rows are answered as `stopped_answers` says.
later_rows : (place : ℕ) (s t : KeptRunState) (rows : List (List (List ℕ))) (lines : List ℕ) → AreAnswered kept_run_answers place s rows lines t → s.stopped ≡ true
    → AreAnswered stopped_answers place s.run rows lines t.run
unfolding AreAnswered
later_rows place s t [] lines a stopped = (a.0, ap (λ (x : KeptRunState). x.run) a.1)
later_rows place s t (fields ∷ rows) lines (line, next, more, (inl one), whole, rest) stopped = absurd (false≢true (sym one.0 ∙ stopped))
later_rows place s t (fields ∷ rows) lines (line, next, more, (inr (inl one)), whole, rest) stopped = absurd (false≢true (sym one.0 ∙ stopped))
later_rows place s t (fields ∷ rows) lines (line, next, more, (inr (inr one)), whole, rest) stopped =
    (line, next.run, more, one.2, whole, later_rows (suc place) next t rows more rest one.1)

no_rows : (place : ℕ) (s t : KeptRunState) (lines : List ℕ) → s.stopped ≡ false → lines ≡ [] → t ≡ s → IsKeptThroughout place s [] lines t
unfolding AreAnswered
no_rows place s t lines going none same = record {
  before = going;
  after = ap (λ (x : KeptRunState). x.stopped) same ∙ going;
  answered = (none, ap (λ (x : KeptRunState). x.run) same);
  text = [];
  keeps = (refl, ap (λ (x : KeptRunState). x.run) same);
  whole = ap (λ (x : KeptRunState). x.kept) same ∙ sym (append-nil s.kept);
}

-- If the first row is accepted or has no text, and no write fails at the other rows, none fails at
-- all of them.
one_more : (place : ℕ) (s next t : KeptRunState) (fields : List (List ℕ)) (rows : List (List (List ℕ))) (lines line more : List ℕ) → IsRowWritten place s fields line next → lines ≡ line ++ more
    → IsKeptThroughout (suc place) next rows more t → IsKeptThroughout place s (fields ∷ rows) lines t
unfolding AreAnswered
one_more place s next t fields rows lines line more w whole k =
    let text = kept_of s.run fields next.run in
    record {
      before = w.0;
      after = k.after;
      answered = (line, next.run, more, w.2, whole, k.answered);
      text = text ++ k.text;
      keeps = (text, next.run, k.text, (line, w.2, refl), refl, k.keeps);
      whole = k.whole ∙ ap (λ (x : List ℕ). x ++ k.text) w.3 ∙ append_assoc s.kept text k.text;
    }

-- The run stops at the first row.
stops_here : (place : ℕ) (s next t : KeptRunState) (fields : List (List ℕ)) (rows : List (List (List ℕ))) (lines line more : List ℕ) → IsRowCutOff place s fields line next → lines ≡ line ++ more
    → AreAnswered kept_run_answers (suc place) next rows more t → StopsAtOneRow place s (fields ∷ rows) lines t
stops_here place s next t fields rows lines line more cut whole rest =
    let last = stays_stopped (suc place) next t rows more rest cut.1 in
    let later = later_rows (suc place) next t rows more rest cut.1 in
    let left = rows_leave (suc place) next.run t.run rows more later in
    let refused = unkept_leaves (by_fault (fault.Keep cut.2)) s.run next.run cut.3.row line cut.3.refused in
    let here : place + 0 ≡ place = omega arith in
    record {
      done = [];
      fields = fields;
      rest = rows;
      split = refl;
      first = [];
      said = line;
      last = more;
      whole = whole;
      before = s;
      kept = no_rows place s s [] cut.0 refl refl;
      after = next;
      cut_off = subst (λ (n : ℕ). IsRowCutOff n s fields line next) (sym here) cut;
      later = subst (λ (n : ℕ). AreAnswered stopped_answers (suc n) next.run rows more t.run) (sym here) later;
      stopped = last.0;
      same_kept = last.1;
      book = left.0 ∙ refused.0;
      batches = left.1 ∙ refused.1;
      none_over = says_none_over (line ++ more) (skips_append line more refused.2 left.2);
    }

-- The run stops at a later row.
stops_later : (place : ℕ) (s next t : KeptRunState) (fields : List (List ℕ)) (rows : List (List (List ℕ))) (lines line more : List ℕ) → IsRowWritten place s fields line next → lines ≡ line ++ more
    → StopsAtOneRow (suc place) next rows more t → StopsAtOneRow place s (fields ∷ rows) lines t
stops_later place s next t fields rows lines line more w whole k =
    let here : suc place + length k.done ≡ place + suc (length k.done) = omega arith in
    record {
      done = fields ∷ k.done;
      fields = k.fields;
      rest = k.rest;
      split = ap (λ (x : List (List (List ℕ))). fields ∷ x) k.split;
      first = line ++ k.first;
      said = k.said;
      last = k.last;
      whole =
          whole ∙ ap (λ (x : List ℕ). line ++ x) k.whole ∙ sym (append_assoc line (k.first ++ k.said) k.last) ∙ ap (λ (x : List ℕ). x ++ k.last) (sym (append_assoc line k.first k.said));
      before = k.before;
      kept = one_more place s next k.before fields k.done (line ++ k.first) line k.first w refl k.kept;
      after = k.after;
      cut_off = subst (λ (n : ℕ). IsRowCutOff n k.before k.fields k.said k.after) here k.cut_off;
      later = subst (λ (n : ℕ). AreAnswered stopped_answers (suc n) k.after.run k.rest k.last t.run) here k.later;
      stopped = k.stopped;
      same_kept = k.same_kept;
      book = k.book;
      batches = k.batches;
      none_over = k.none_over;
    }

pub runs_stop_once : RunsStopOnce
unfolding AreAnswered
runs_stop_once place s t [] lines a going = inl (no_rows place s t lines going a.0 a.1)
runs_stop_once place s t (fields ∷ rows) lines (line, next, more, (inl one), whole, rest) going = elim (runs_stop_once (suc place) next t rows more rest one.1) [
  | inl kept ↦ inl (one_more place s next t fields rows lines line more one whole kept)
  | inr stops ↦ inr (stops_later place s next t fields rows lines line more one whole stops)
]
runs_stop_once place s t (fields ∷ rows) lines (line, next, more, (inr (inl one)), whole, rest) going = inr (stops_here place s next t fields rows lines line more one whole rest)
runs_stop_once place s t (fields ∷ rows) lines (line, next, more, (inr (inr one)), whole, rest) going = absurd (false≢true (sym going ∙ one.0))

-- ---- what was written to the writer `keep`

fewer : (text : List ℕ) (n m : ℕ) (t u : BookRunState) → n ≤ m → u.book ≡ t.book → u.batches ≡ t.batches → RemakesBook text n t → RemakesBook text m u
fewer text n m t u most book batches k = record {
  few = omega (arith, most, k.few);
  lines = k.lines;
  after = k.after;
  answered = k.answered;
  book = k.book ∙ sym book;
  batches = k.batches ∙ sym batches;
  changes = k.changes;
  refused = k.refused;
}

pub kept_run_is_book : KeptIsTheBook → KeptRunIsTheBook
kept_run_is_book kept rows lines t a = elim (runs_stop_once 1 kept_start t rows lines a refl) [
  | inl k ↦ (k.text, [], k.whole ∙ sym (append-nil k.text), rw k.after refl, kept rows k.text t.run k.keeps)
  | inr k ↦ (
    k.kept.text,
    take k.cut_off.2 (kept_of k.before.run k.fields k.cut_off.3.next),
    k.same_kept ∙ k.cut_off.4 ∙ ap (λ (x : List ℕ). x ++ take k.cut_off.2 (kept_of k.before.run k.fields k.cut_off.3.next)) k.kept.whole,
    rw k.stopped (k.before.run, k.cut_off.3.next, k.fields, k.cut_off.2, k.cut_off.3.part, refl),
    fewer k.kept.text (length k.done) (length rows) k.before.run t.run (omega (arith, ap length k.split, length-append k.done (k.fields ∷ k.rest))) k.book k.batches (kept k.done k.kept.text k.before.run k.kept.keeps),
  )
]
