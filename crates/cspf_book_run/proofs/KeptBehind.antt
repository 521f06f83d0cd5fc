-- The texts of the accepted rows of a run that goes on with an earlier book restore its book, behind
-- the earlier rows.
use Rattle.std.proofs.Common.{◌≡◌, ℕ, suc, ◌+◌, List, [], ◌∷◌, ◌++◌, length, codes, Option, Some, None, Result, Ok, Err, inl, inr, refl, sym, ap, subst, ◌∙◌, append_assoc, arith}
use Rattle.std.specs.List.{flat_map}
use Rattle.std.specs.Fmt.{decimal}
use Rattle.cspf_model.specs.Best.{Answer}
use Rattle.cspf_model.specs.Database.{Key}
use Rattle.cspf_ero.specs.ReplyLine.{IsReply}
use Rattle.cspf_rows.specs.Records.{rows_of}
use Rattle.cspf_rows.specs.Says.{AreRowsRead}
use Rattle.cspf_rows.specs.Steps.{step_of}
use Rattle.cspf_rows.specs.declared.step.Step.{Step}
use Rattle.cspf_rows.specs.declared.step.Step.TheVariants as step
use Rattle.cspf_rows.proofs.BatchRecords.{AreRowsReadBack}
use Rattle.cspf_stream.specs.RowAnswers.{AreAnswered}
use Rattle.cspf_book.specs.LinkFigures.{figures_at}
use Rattle.cspf_book.specs.OverLinks.{over}
use Rattle.cspf_book.specs.Placements.{placement_of}
use Rattle.cspf_book.specs.declared.link_figures.LinkFigures.{LinkFigures}
use Rattle.cspf_book.specs.declared.placement.Placement.{Placement}
use Rattle.cspf_book_run.specs.BookLines.{over_line, lost_line, base_line, released_line}
use Rattle.cspf_book_run.specs.BookRows.{book_row_of}
use Rattle.cspf_book_run.specs.BookScript.{BookRunState, book_start, book_answers, name_of, going_on, held_lines, IsBookStepAnswered, IsBookRowAnswered, IsShown, IsLeftShown}
use Rattle.cspf_book_run.specs.KeptLaws.{KeptBehindIsTheBook, KeptIsTheBook}
use Rattle.cspf_book_run.specs.PlacementLines.{show_line, left_line}
use Rattle.cspf_book_run.specs.declared.book_row.BookRow.{BookRow}
use Rattle.cspf_book_run.specs.declared.book_row.BookRow.TheVariants as book_row
use Rattle.cspf_book_run.specs.declared.book_row_error.BookRowError.{BookRowError}
use Rattle.cspf_book_run.proofs.KeptBook.{bare, kept_rows, rows_remake}
use Rattle.cspf_book_run.proofs.KeptTexts.{kept_cut}

abbrev Rows : Type 0
Rows = List (List (List ℕ))

-- ---- the lines of a run whose first versions aren't counted

-- the state with this many versions that aren't counted where lines name a version
abbrev skipping : ℕ → BookRunState → BookRunState
skipping k s = record s { skipped = k }

-- A reply names another version.
another_reply : (id version other : ℕ) (answer : Answer) (line : List ℕ) → IsReply id version answer line → (m : List ℕ) × IsReply id other answer m
another_reply id version other answer line (text, is, line_is) =
    (codes "ask " ++ decimal id ++ codes " v" ++ decimal other ++ codes " " ++ text ++ codes "\n", (text, is, refl))

-- The part of a reply behind its word names another version.
another_rest : (id version other : ℕ) (answer : Answer) (rest : List ℕ) → IsReply id version answer (codes "ask" ++ rest) → (m : List ℕ) × IsReply id other answer (codes "ask" ++ m)
another_rest id version other answer rest (text, is, line_is) =
    (codes " " ++ decimal id ++ codes " v" ++ decimal other ++ codes " " ++ text ++ codes "\n", (text, is, refl))

module _ (k : ℕ) where
  -- The row is answered with a line of its own where the other versions aren't counted.
  abbrev IsAnsweredSkipping : ℕ → BookRunState → Result BookRow BookRowError → BookRunState → Type 0
  IsAnsweredSkipping p s r t = (m : List ℕ) × IsBookRowAnswered p (skipping k s) r m (skipping k t)

  step_skipping : (p : ℕ) (s t : BookRunState) (asked : Step) (line : List ℕ) → IsBookStepAnswered s asked line t → (m : List ℕ) × IsBookStepAnswered (skipping k s) asked m (skipping k t)
  step_skipping p s t (step.Change c) line (quiet, after) = ([], (refl, ap (skipping k) after))
  step_skipping p s t (step.End number count) line (inl (accepted, (ids, lost, lines), after)) = (
    flat_map over_line (over s.book.placements s.changes) ++ flat_map lost_line ids ++ base_line number (name_of (skipping k s) (s.book.version + 1)),
    inl (accepted, (ids, lost, refl), ap (skipping k) after),
  )
  step_skipping p s t (step.End number count) line (inr (why, unfit, is, line_is, after)) = (line, inr (why, unfit, is, line_is, ap (skipping k) after))
  step_skipping p s t (step.Ask q) line (answer, best, reply, after) =
      let other = another_reply q.id (name_of s s.book.version) (name_of (skipping k s) s.book.version) answer line reply in
      (other.0, (answer, best, other.1, ap (skipping k) after))

  shown_skipping : (s t : BookRunState) (id : ℕ) (found : Option Placement) (line : List ℕ) → IsShown s id found line t → (m : List ℕ) × IsShown (skipping k s) id found m (skipping k t)
  shown_skipping s t id (Some p) line (line_is, after) = (show_line (name_of (skipping k s) s.book.version) p, (refl, ap (skipping k) after))
  shown_skipping s t id None line (line_is, after) = (line, (line_is, ap (skipping k) after))

  left_skipping : (s t : BookRunState) (key : Key) (found : Option LinkFigures) (line : List ℕ) → IsLeftShown s key found line t → (m : List ℕ) × IsLeftShown (skipping k s) key found m (skipping k t)
  left_skipping s t key (Some figures) line (line_is, after) = (left_line key.0 key.1 (name_of (skipping k s) s.book.version) figures, (refl, ap (skipping k) after))
  left_skipping s t key None line (line_is, after) = (line, (line_is, ap (skipping k) after))

  row_skipping : (p : ℕ) (s t : BookRunState) (r : Result BookRow BookRowError) (line : List ℕ) → IsBookRowAnswered p s r line t → IsAnsweredSkipping p s r t
  row_skipping p s t (Err e) line (line_is, after) = (line, (line_is, ap (skipping k) after))
  row_skipping p s t (Ok (book_row.Base row)) line a = step_skipping p s t (step_of row) line a
  row_skipping p s t (Ok (book_row.Place q hold)) line (inl (x, after)) =
      let other = another_rest q.id (name_of s t.book.version) (name_of (skipping k s) t.book.version) x.answer x.reply.0 x.reply.1 in (
        codes "place" ++ other.0,
        inl (
          record { room = x.room; few = x.few; answer = x.answer; best = x.best; placed = x.placed; reply = (other.0, other.1, refl) },
          ap (skipping k) after,
        ),
      )
  row_skipping p s t (Ok (book_row.Place q hold)) line (inr (why, is, line_is, after)) = (line, inr (why, is, line_is, ap (skipping k) after))
  row_skipping p s t (Ok (book_row.Release id)) line (inl (room, has, line_is, after)) = (
    released_line id (name_of (skipping k s) (s.book.version + 1)),
    inl (room, has, refl, ap (skipping k) after),
  )
  row_skipping p s t (Ok (book_row.Release id)) line (inr (why, is, line_is, after)) = (line, inr (why, is, line_is, ap (skipping k) after))
  row_skipping p s t (Ok (book_row.Held q)) line (inl (room, may, line_is, after)) = (held_lines (skipping k s) q, inl (room, may, refl, ap (skipping k) after))
  row_skipping p s t (Ok (book_row.Held q)) line (inr (why, is, line_is, after)) = (line, inr (why, is, line_is, ap (skipping k) after))
  row_skipping p s t (Ok (book_row.Offer q hold)) line (inl (x, after)) =
      let other = another_rest q.id (name_of s s.book.version) (name_of (skipping k s) s.book.version) x.answer x.reply.0 x.reply.1 in (
        codes "offer" ++ other.0,
        inl (
          record { room = x.room; few = x.few; answer = x.answer; best = x.best; placed = x.placed; may = x.may; reply = (other.0, other.1, refl) },
          ap (skipping k) after,
        ),
      )
  row_skipping p s t (Ok (book_row.Offer q hold)) line (inr (why, is, line_is, after)) = (line, inr (why, is, line_is, ap (skipping k) after))
  row_skipping p s t (Ok (book_row.Show id)) line a = shown_skipping s t id (placement_of id s.book.placements) line a
  row_skipping p s t (Ok (book_row.Left from local)) line a = left_skipping s t (from, local) (figures_at s.book.base s.book.placements (from, local)) line a

  rows_skipping : (p : ℕ) (s t : BookRunState) (rows : Rows) (lines : List ℕ) → AreAnswered book_answers p s rows lines t → (ms : List ℕ) × AreAnswered book_answers p (skipping k s) rows ms (skipping k t)
  unfolding AreAnswered
  rows_skipping p s t [] lines (none, same) = ([], (refl, ap (skipping k) same))
  rows_skipping p s t (fields ∷ rows) lines (line, next, more, a, whole, rest) =
      let first = row_skipping p s next (book_row_of fields) line a in
      let others = rows_skipping (suc p) next t rows more rest in
      (first.0 ++ others.0, (first.0, skipping k next, others.0, first.1, refl, others.1))

-- ---- the texts of accepted rows behind earlier rows

-- The state behind earlier rows, of which none was refused, is that in which a run over the texts of
-- accepted rows begins.
begun_bare : (begun : BookRunState) (skipped : ℕ) → begun.changes ≡ [] → begun.refused ≡ 0 → skipping begun.skipped (bare (going_on begun skipped) begun.answers) ≡ begun
begun_bare begun skipped none taken = λ i. record {
  book = begun.book;
  batches = begun.batches;
  restored = begun.restored;
  changes = sym none i;
  answers = begun.answers;
  refused = sym taken i;
  skipped = begun.skipped;
}

-- Rows are answered, and then the rows behind them.
answered_behind : (xs ys : Rows) (p : ℕ) (s m t : BookRunState) (l k : List ℕ) → AreAnswered book_answers p s xs l m → AreAnswered book_answers (p + length xs) m ys k t
    → AreAnswered book_answers p s (xs ++ ys) (l ++ k) t
unfolding AreAnswered
answered_behind [] ys p s m t l k (none, same) rest =
    let here : p + 0 ≡ p = omega arith in
    let from : AreAnswered book_answers p s ys k t = subst (λ (x : BookRunState). AreAnswered book_answers p x ys k t) same (subst (λ (n : ℕ). AreAnswered book_answers n m ys k t) here rest) in
    subst (λ (z : List ℕ). AreAnswered book_answers p s ys (z ++ k) t) (sym none) from
answered_behind (x ∷ xs) ys p s m t l k (line, next, more, a, whole, rest) behind =
    let here : p + suc (length xs) ≡ suc p + length xs = omega arith in (
      line,
      next,
      more ++ k,
      a,
      ap (λ (z : List ℕ). z ++ k) whole ∙ append_assoc line more k,
      answered_behind xs ys (suc p) next m t more k rest (subst (λ (n : ℕ). AreAnswered book_answers n m ys k t) here behind),
    )

pub kept_behind : AreRowsRead → AreRowsReadBack → KeptBehindIsTheBook
kept_behind read laws earlier rows begun skipped text t (said, answered, taken) none a =
    let all = rows_remake read laws rows 1 (going_on begun skipped) t text tt a in
    let run = all.runs begun.answers in
    let cut : rows_of text ≡ all.records = ap rows_of all.is ∙ kept_cut all.records all.plain in
    let from : BookRunState = bare (going_on begun skipped) begun.answers in
    let k : ℕ = begun.skipped in
    let skips = rows_skipping k (1 + length earlier) from (bare t run.0) all.records run.1 (run.2 (1 + length earlier)) in
    let behind : AreAnswered book_answers (1 + length earlier) begun all.records skips.0 (skipping k (bare t run.0)) =
    subst (λ (x : BookRunState). AreAnswered book_answers (1 + length earlier) x all.records skips.0 (skipping k (bare t run.0))) (begun_bare begun skipped none taken) skips.1 in
    record {
      few = rw cut (omega (arith, all.few));
      lines = said ++ skips.0;
      after = skipping k (bare t run.0);
      answered = rw cut (answered_behind earlier all.records 1 book_start begun (skipping k (bare t run.0)) said skips.0 answered behind);
      book = refl;
      batches = refl;
      changes = refl;
      refused = refl;
    }

pub kept_is_book : KeptBehindIsTheBook → KeptIsTheBook
unfolding AreAnswered
kept_is_book behind rows text t a = behind [] rows book_start 0 text t ([], (refl, refl), refl) refl (kept_rows rows 1 book_start t text a)
