-- The rows of a run have only one answer each, if no write to the writer `keep` fails. If one fails,
-- the rows and the number of written bytes have only one.
use Rattle.std.proofs.Common.{◌≡◌, ℕ, suc, ◌+◌, ◌<◌, ◌≤◌, ◌++◌, true, false, List, [], ◌∷◌, length, length-append, take, Result, Ok, Err, inl, inr, sym, ap, subst, ◌∙◌, arith}
use Rattle.std.proofs.lemmas.Bool.{false≢true}
use Rattle.std.proofs.lemmas.List.{length-take-le}
use Rattle.cspf_model.specs.Laws.{OneBestAnswer, OneRefusal}
use Rattle.cspf_ero.specs.ReplyLine.{HasOneReplyLine}
use Rattle.cspf_rows.specs.Steps.{step_of}
use Rattle.cspf_rows.specs.declared.step.Step.{Step}
use Rattle.cspf_rows.specs.declared.step.Step.TheVariants as step
use Rattle.cspf_stream.specs.RowAnswers.{AreAnswered}
use Rattle.cspf_book_run.specs.declared.book_row.BookRow.{BookRow}
use Rattle.cspf_book_run.specs.declared.book_row.BookRow.TheVariants as book_row
use Rattle.cspf_book_run.specs.declared.book_row_error.BookRowError.{BookRowError}
use Rattle.cspf_book_run.specs.BookRows.{book_row_of}
use Rattle.cspf_book_run.specs.BookScript.{BookRunState, IsBookRowAnswered}
use Rattle.cspf_book_run.specs.BookScriptLaws.{HaveKeptAlike, BooksHaveOneReply}
use Rattle.cspf_book_run.specs.Kept.{kept_of}
use Rattle.cspf_book_run.specs.KeptRuns.{KeptRunState, kept_start, kept_run_answers, IsRowCut, IsEndUnkept, IsStepStopped, IsAnsweredStopped, IsRowWritten, IsRowCutOff}
use Rattle.cspf_book.specs.LinkFigures.{figures_at}
use Rattle.cspf_book.specs.Placements.{placement_of}
use Rattle.cspf_book_run.proofs.BookOneReply.{SameBookReply, ask_once, book_row_once}
use Rattle.cspf_book_run.proofs.Looks.{shown_once, left_once}
use Rattle.cspf_book_run.specs.WriteFaultWords.{batch_refusal_of}
use Rattle.cspf_stream.specs.declared.batch_refusal.BatchRefusal.{BatchRefusal}
use Rattle.cspf_book_run.specs.declared.write_fault.WriteFault.{WriteFault}
use Rattle.cspf_book_run.specs.declared.write_fault.WriteFault.TheVariants as write_fault

-- ---- what is written

-- A run that has stopped stays so, and writes nothing more to the writer `keep`.
pub stays_stopped : (place : ℕ) (s t : KeptRunState) (rows : List (List (List ℕ))) (lines : List ℕ) → AreAnswered kept_run_answers place s rows lines t → s.stopped ≡ true
    → (t.stopped ≡ true) × (t.kept ≡ s.kept)
unfolding AreAnswered
stays_stopped place s t [] lines a stopped = (ap (λ (x : KeptRunState). x.stopped) a.1 ∙ stopped, ap (λ (x : KeptRunState). x.kept) a.1)
stays_stopped place s t (fields ∷ rows) lines (line, next, more, (inl one), whole, rest) stopped = absurd (false≢true (sym one.0 ∙ stopped))
stays_stopped place s t (fields ∷ rows) lines (line, next, more, (inr (inl one)), whole, rest) stopped = absurd (false≢true (sym one.0 ∙ stopped))
stays_stopped place s t (fields ∷ rows) lines (line, next, more, (inr (inr one)), whole, rest) stopped =
    let later = stays_stopped (suc place) next t rows more rest one.1 in
    (later.0, later.1 ∙ one.3)

longer : (before text after : List ℕ) → after ≡ before ++ text → length before ≤ length after
longer before text after is = omega (arith, ap length is, length-append before text)

-- What is written to the writer `keep` is never taken back.
pub kept_grows : (place : ℕ) (s t : KeptRunState) (rows : List (List (List ℕ))) (lines : List ℕ) → AreAnswered kept_run_answers place s rows lines t → length s.kept ≤ length t.kept
unfolding AreAnswered
kept_grows place s t [] lines a = omega (arith, ap (λ (x : KeptRunState). length x.kept) a.1)
kept_grows place s t (fields ∷ rows) lines (line, next, more, (inl one), whole, rest) =
    omega (arith, kept_grows (suc place) next t rows more rest, longer s.kept (kept_of s.run fields next.run) next.kept one.3)
kept_grows place s t (fields ∷ rows) lines (line, next, more, (inr (inl one)), whole, rest) =
    omega (arith, kept_grows (suc place) next t rows more rest, longer s.kept (take one.2 (kept_of s.run fields (one.3).next)) next.kept one.4)
kept_grows place s t (fields ∷ rows) lines (line, next, more, (inr (inr one)), whole, rest) =
    omega (arith, kept_grows (suc place) next t rows more rest, ap length one.3)

-- ---- one row

end_unkept_once : (s : BookRunState) (asked : Step) (why : BatchRefusal) (l m : List ℕ) (t u : BookRunState) → IsEndUnkept why s asked l t → IsEndUnkept why s asked m u → SameBookReply l t m u
end_unkept_once s (step.End number count) why l m t u a b = (a.0 ∙ sym b.0, a.1 ∙ sym b.1)
end_unkept_once s other why l m t u a b = absurd a

cut_once : (s : BookRunState) (why : WriteFault) (row : BookRow) (l m : List ℕ) (t u : BookRunState) → IsRowCut why s row l t → IsRowCut why s row m u → SameBookReply l t m u
cut_once s why (book_row.Base row) l m t u a b = end_unkept_once s (step_of row) (batch_refusal_of why) l m t u a b
cut_once s why (book_row.Place q hold) l m t u a b = (a.0 ∙ sym b.0, a.1 ∙ sym b.1)
cut_once s why (book_row.Release id) l m t u a b = (a.0 ∙ sym b.0, a.1 ∙ sym b.1)
cut_once s why (book_row.Held p) l m t u a b = (a.0 ∙ sym b.0, a.1 ∙ sym b.1)
cut_once s why (book_row.Offer q hold) l m t u a b = (a.0 ∙ sym b.0, a.1 ∙ sym b.1)
cut_once s why other l m t u a b = absurd a

-- the result of reading a record as this row
abbrev read_as : BookRow → Result BookRow BookRowError
read_as r = Ok r

one_row : (x y : BookRow) → read_as x ≡ read_as y → x ≡ y
one_row x y e = cc

step_stopped_once : OneBestAnswer → HasOneReplyLine → (s : BookRunState) (asked : Step) (l m : List ℕ) (t u : BookRunState) → IsStepStopped s asked l t → IsStepStopped s asked m u → SameBookReply l t m u
step_stopped_once best reply s (step.Change c) l m t u a b = (a.0 ∙ sym b.0, a.1 ∙ sym b.1)
step_stopped_once best reply s (step.End number count) l m t u a b = (a.0 ∙ sym b.0, a.1 ∙ sym b.1)
step_stopped_once best reply s (step.Ask q) l m t u a b = ask_once best reply s q l m t u a b

stopped_once : OneBestAnswer → HasOneReplyLine → (place : ℕ) (s : BookRunState) (r : Result BookRow BookRowError) (l m : List ℕ) (t u : BookRunState)
    → IsAnsweredStopped place s r l t → IsAnsweredStopped place s r m u → SameBookReply l t m u
stopped_once best reply place s (Err e) l m t u a b = (a.0 ∙ sym b.0, a.1 ∙ sym b.1)
stopped_once best reply place s (Ok (book_row.Base row)) l m t u a b = step_stopped_once best reply s (step_of row) l m t u a b
stopped_once best reply place s (Ok (book_row.Place q hold)) l m t u a b = (a.0 ∙ sym b.0, a.1 ∙ sym b.1)
stopped_once best reply place s (Ok (book_row.Release id)) l m t u a b = (a.0 ∙ sym b.0, a.1 ∙ sym b.1)
stopped_once best reply place s (Ok (book_row.Held p)) l m t u a b = (a.0 ∙ sym b.0, a.1 ∙ sym b.1)
stopped_once best reply place s (Ok (book_row.Offer q hold)) l m t u a b = (a.0 ∙ sym b.0, a.1 ∙ sym b.1)
stopped_once best reply place s (Ok (book_row.Show id)) l m t u a b = shown_once s id (placement_of id s.book.placements) l m t u a b
stopped_once best reply place s (Ok (book_row.Left from local)) l m t u a b = left_once s (from, local) (figures_at s.book.base s.book.placements (from, local)) l m t u a b

one_state : (s t : KeptRunState) → s.run ≡ t.run → s.stopped ≡ t.stopped → s.kept ≡ t.kept → s ≡ t
one_state s t run stopped kept = λ i. record { run = run i; stopped = stopped i; kept = kept i }

-- ---- all rows

-- one reply, and one state after it
abbrev SameKept : List ℕ → KeptRunState → List ℕ → KeptRunState → Type 0
SameKept l s m t = (l ≡ m) × (s ≡ t)

abbrev Answered : ℕ → KeptRunState → List (List (List ℕ)) → List ℕ → KeptRunState → Type 0
Answered = AreAnswered kept_run_answers

-- the length of a text after which the first bytes of another text are written
cut_length : (before text after : List ℕ) (written : ℕ) → after ≡ before ++ take written text → written < length text → length after ≡ length before + written
cut_length before text after written is part =
    omega (arith, ap length is, length-append before (take written text), length-take-le written text (omega (arith, part)))

module _ (best : OneBestAnswer) (reply : HasOneReplyLine) (one : OneRefusal) where
  -- the state after a row that is accepted, or that would be
  next_once : (place : ℕ) (s : BookRunState) (fields : List (List ℕ)) (l m : List ℕ) (t u : BookRunState)
      → IsBookRowAnswered place s (book_row_of fields) l t → IsBookRowAnswered place s (book_row_of fields) m u → SameBookReply l t m u
  next_once place s fields l m t u a b = book_row_once best reply one place s (book_row_of fields) l m t u a b

  -- Two runs can't differ in whether the write of a row's text fails, if as much is written in both.
  not_both : (place : ℕ) (s : KeptRunState) (fields : List (List ℕ)) (rows : List (List (List ℕ))) (l m more others : List ℕ) (n k t u : KeptRunState)
      → IsRowWritten place s fields l n → IsRowCutOff place s fields m k → Answered (suc place) n rows more t → Answered (suc place) k rows others u
      → (u.stopped ≡ false → ⊥) × (length t.kept ≡ length u.kept → ⊥)
  not_both place s fields rows l m more others n k t u w (going, stops, written, fault, kept) first second =
      let last = stays_stopped (suc place) k u rows others second stops in
      let same = next_once place s.run fields l fault.lines n.run fault.next w.2 fault.accepted in
      let text = kept_of s.run fields fault.next in
      let whole : n.kept ≡ s.kept ++ text = w.3 ∙ ap (λ (x : BookRunState). s.kept ++ kept_of s.run fields x) same.1 in (
        λ free. false≢true (sym free ∙ last.0),
        λ alike. omega (arith, alike, kept_grows (suc place) n t rows more first, ap length whole, length-append s.kept text, ap length last.1, cut_length s.kept text k.kept written kept fault.part, fault.part),
      )

  neither : (t u : KeptRunState) → (u.stopped ≡ false → ⊥) × (length t.kept ≡ length u.kept → ⊥) → HaveKeptAlike t u → ⊥
  neither t u never (inl both) = never.0 both.1
  neither t u never (inr both) = never.1 both.2

  other_way : (t u : KeptRunState) → HaveKeptAlike t u → HaveKeptAlike u t
  other_way t u (inl both) = inl (both.1, both.0)
  other_way t u (inr both) = inr (both.1, both.0, sym both.2)

  as_long : (t u : KeptRunState) → HaveKeptAlike t u → t.stopped ≡ true → length t.kept ≡ length u.kept
  as_long t u (inl both) stopped = absurd (false≢true (sym both.0 ∙ stopped))
  as_long t u (inr both) stopped = both.2

  both_cut : (place : ℕ) (s : KeptRunState) (fields : List (List ℕ)) (rows : List (List (List ℕ))) (l m more others : List ℕ) (n k t u : KeptRunState)
      → IsRowCutOff place s fields l n → IsRowCutOff place s fields m k → Answered (suc place) n rows more t → Answered (suc place) k rows others u → HaveKeptAlike t u → SameKept l n m k
  both_cut place s fields rows l m more others n k t u (going, stops, written, fault, kept) (going2, stops2, written2, fault2, kept2) first second alike =
      let last = stays_stopped (suc place) n t rows more first stops in
      let last2 = stays_stopped (suc place) k u rows others second stops2 in
      let next = (next_once place s.run fields fault.lines fault2.lines fault.next fault2.next fault.accepted fault2.accepted).1 in
      let size : written ≡ written2 = omega (
        arith,
        as_long t u alike last.0,
        ap length last.1,
        ap length last2.1,
        cut_length s.kept (kept_of s.run fields fault.next) n.kept written kept fault.part,
        cut_length s.kept (kept_of s.run fields fault2.next) k.kept written2 kept2 fault2.part,
      ) in
      let row : fault.row ≡ fault2.row = one_row fault.row fault2.row (sym fault.read ∙ fault2.read) in
      let refused : IsRowCut (write_fault.Keep written) s.run fault.row m k.run =
      subst (λ (x : ℕ). IsRowCut (write_fault.Keep x) s.run fault.row m k.run) (sym size) (subst (λ (x : BookRow). IsRowCut (write_fault.Keep written2) s.run x m k.run) (sym row) fault2.refused) in
      let same = cut_once s.run (write_fault.Keep written) fault.row l m n.run k.run fault.refused refused in (
        same.0,
        one_state n k same.1 (stops ∙ sym stops2)
            (kept ∙ ap (λ (x : ℕ). s.kept ++ take x (kept_of s.run fields fault.next)) size ∙ ap (λ (x : BookRunState). s.kept ++ take written2 (kept_of s.run fields x)) next ∙ sym kept2),
      )

  row_once : (place : ℕ) (s : KeptRunState) (fields : List (List ℕ)) (rows : List (List (List ℕ))) (l m more others : List ℕ) (n k t u : KeptRunState)
      → kept_run_answers place s fields l n → kept_run_answers place s fields m k → Answered (suc place) n rows more t → Answered (suc place) k rows others u → HaveKeptAlike t u → SameKept l n m k
  row_once place s fields rows l m more others n k t u (inl a) (inl b) first second alike =
      let same = next_once place s.run fields l m n.run k.run a.2 b.2 in
      (same.0, one_state n k same.1 (a.1 ∙ sym b.1) (a.3 ∙ ap (λ (x : BookRunState). s.kept ++ kept_of s.run fields x) same.1 ∙ sym b.3))
  row_once place s fields rows l m more others n k t u (inl a) (inr (inl b)) first second alike =
      absurd (neither t u (not_both place s fields rows l m more others n k t u a b first second) alike)
  row_once place s fields rows l m more others n k t u (inr (inl a)) (inl b) first second alike =
      absurd (neither u t (not_both place s fields rows m l others more k n u t b a second first) (other_way t u alike))
  row_once place s fields rows l m more others n k t u (inr (inl a)) (inr (inl b)) first second alike = both_cut place s fields rows l m more others n k t u a b first second alike
  row_once place s fields rows l m more others n k t u (inr (inr a)) (inr (inr b)) first second alike =
      let same = stopped_once best reply place s.run (book_row_of fields) l m n.run k.run a.2 b.2 in
      (same.0, one_state n k same.1 (a.1 ∙ sym b.1) (a.3 ∙ sym b.3))
  row_once place s fields rows l m more others n k t u (inl a) (inr (inr b)) first second alike = absurd (false≢true (sym a.0 ∙ b.0))
  row_once place s fields rows l m more others n k t u (inr (inl a)) (inr (inr b)) first second alike = absurd (false≢true (sym a.0 ∙ b.0))
  row_once place s fields rows l m more others n k t u (inr (inr a)) (inl b) first second alike = absurd (false≢true (sym b.0 ∙ a.0))
  row_once place s fields rows l m more others n k t u (inr (inr a)) (inr (inl b)) first second alike = absurd (false≢true (sym b.0 ∙ a.0))

  all_once : (place : ℕ) (s : KeptRunState) (rows : List (List (List ℕ))) (l m : List ℕ) (t u : KeptRunState) → Answered place s rows l t → Answered place s rows m u → HaveKeptAlike t u → SameKept l t m u
  unfolding AreAnswered
  all_once place s [] l m t u a b alike = (a.0 ∙ sym b.0, a.1 ∙ sym b.1)
  all_once place s (fields ∷ rows) l m t u a b alike =
      let first = row_once place s fields rows a.0 b.0 a.2 b.2 a.1 b.1 t u a.3 b.3 a.5 b.5 alike in
      let rest = all_once (suc place) b.1 rows a.2 b.2 t u (subst (λ (x : KeptRunState). Answered (suc place) x rows a.2 t) first.1 a.5) b.5 alike in
      (a.4 ∙ rw (first.0, rest.0) (sym b.4), rest.1)

  pub book_run_once : BooksHaveOneReply
  book_run_once rows l m kept other a b x y alike =
      let same = all_once 1 kept_start (take 1000000 rows) x.replies y.replies x.after y.after x.answered y.answered alike in
      (x.whole ∙ rw (same.0, same.1) (sym y.whole), x.whole_kept ∙ rw same.1 (sym y.whole_kept), x.counts ∙ rw same.1 (sym y.counts))
