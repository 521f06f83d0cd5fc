-- Two runs over the same rows of a stream write the same lines.
use Rattle.std.proofs.Common.{◌≡◌, ℕ, ◌+◌, List, [], ◌∷◌, ◌++◌, take, Result, Ok, Err, inl, inr, refl, sym, ap, ◌∙◌, append_assoc}
use Rattle.cspf_model.specs.Laws.{OneBestAnswer, OneRefusal}
use Rattle.cspf_ero.specs.ReplyLine.{HasOneReplyLine}
use Rattle.cspf_rows.specs.Rows.{row_of}
use Rattle.cspf_rows.specs.declared.row.Row.{Row}
use Rattle.cspf_rows.specs.declared.row.Row.TheVariants as row
use Rattle.cspf_rows.specs.declared.row_error.RowError.{RowError}
use Rattle.cspf_stream.proofs.BatchRefusals.{refusal_once}
use Rattle.cspf_solve.specs.Script.{RunState, start, at_next_row, current_version, current_database, IsEndAnswered, IsRowAnswered, AreRowsAnswered}
use Rattle.cspf_solve.specs.SolveLaws.{HaveOneReply}

abbrev Rows : Type 0
Rows = List (List (List ℕ))

abbrev pub SameReply : List ℕ → RunState → List ℕ → RunState → Type 0
SameReply l s m t = (l ≡ m) × (s ≡ t)

end_once : OneRefusal → (s : RunState) (number count : ℕ) (l m : List ℕ) (t u : RunState)
    → IsEndAnswered s number count l t → IsEndAnswered s number count m u → SameReply l t m u
end_once one s number count l m t u (inl a) (inl b) = (a.1 ∙ sym b.1, a.2 ∙ sym b.2)
end_once one s number count l m t u (inl a) (inr b) = absurd (b.1 a.0)
end_once one s number count l m t u (inr a) (inl b) = absurd (a.1 b.0)
end_once one s number count l m t u (inr a) (inr b) =
    (a.3 ∙ rw (refusal_once (current_version s) (current_version s + 1) s.changes (current_database s) number count one a.0 b.0 a.2 b.2) (sym b.3), a.4 ∙ sym b.4)

pub answered_once : OneBestAnswer → HasOneReplyLine → OneRefusal → (s : RunState) (r : Result Row RowError) (l m : List ℕ) (t u : RunState)
    → IsRowAnswered s r l t → IsRowAnswered s r m u → SameReply l t m u
answered_once best reply one s (Err error) l m t u a b = (a.0 ∙ sym b.0, a.1 ∙ sym b.1)
answered_once best reply one s (Ok (row.End number count)) l m t u a b = end_once one s number count l m t u a b
answered_once best reply one s (Ok (row.Ask q)) l m t u a b =
    let same : a.0 ≡ b.0 = best _ q a.0 b.0 a.1 b.1 in
    (reply q.id _ b.0 l m (rw same at a.2) b.2, a.3 ∙ sym b.3)
answered_once best reply one s (Ok change) l m t u a b = (a.0 ∙ sym b.0, a.1 ∙ sym b.1)

pub all_once : OneBestAnswer → HasOneReplyLine → OneRefusal → (s : RunState) (rows : List (List (List ℕ))) (l m : List ℕ) (t u : RunState)
    → AreRowsAnswered s rows l t → AreRowsAnswered s rows m u → SameReply l t m u
unfolding AreRowsAnswered
all_once best reply one s [] l m t u a b = (a.0 ∙ sym b.0, a.1 ∙ sym b.1)
all_once best reply one s (fields ∷ rows) l m t u a b =
    let step = answered_once best reply one (at_next_row s) (row_of fields) a.0 b.0 a.1 b.1 a.3 b.3 in
    let rest = all_once best reply one b.1 rows a.2 b.2 t u (rw step.1 at a.5) b.5 in
    (a.4 ∙ rw (step.0, rest.0) (sym b.4), rest.1)

pub run_once : OneBestAnswer → HasOneReplyLine → OneRefusal → HaveOneReply
run_once best reply one rows l m a b x y =
    let same = all_once best reply one start (take 1000000 rows) x.replies y.replies x.after y.after x.answered y.answered in
    (x.whole ∙ rw (same.0, same.1) (sym y.whole), x.counts ∙ rw same.1 (sym y.counts))

-- the lines `l` are the lines that answer the rows `xs`, followed by the lines that answer the rows
-- `ys`
pub record IsSplit (s : RunState) (xs ys : List (List (List ℕ))) (l : List ℕ) (t : RunState) : Type 0 where
  pub first : List ℕ
  pub mid : RunState
  pub second : List ℕ
  pub front : AreRowsAnswered s xs first mid
  pub back : AreRowsAnswered mid ys second t
  pub whole : l ≡ first ++ second

pub answered_split : (s : RunState) (xs ys : List (List (List ℕ))) (l : List ℕ) (t : RunState) → AreRowsAnswered s (xs ++ ys) l t → IsSplit s xs ys l t
unfolding AreRowsAnswered
answered_split s [] ys l t a = record { first = []; mid = s; second = l; front = (refl, refl); back = a; whole = refl }
answered_split s (fields ∷ xs) ys l t a =
    let rest = answered_split a.1 xs ys a.2 t a.5 in
    record {
      first = a.0 ++ rest.first;
      mid = rest.mid;
      second = rest.second;
      front = (a.0, a.1, rest.first, a.3, refl, rest.front);
      back = rest.back;
      whole = a.4 ∙ ap (λ m. a.0 ++ m) rest.whole ∙ sym (append_assoc a.0 rest.first rest.second);
    }
