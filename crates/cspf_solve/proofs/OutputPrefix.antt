-- The output of a run that stops is a prefix of the output of the whole run.
use Rattle.std.proofs.Common.{◌≡◌, ℕ, zero, suc, ◌+◌, ◌-◌, ◌<◌, ◌≤◌, nat_lt, Bool, true, false, List, [], ◌∷◌, ◌++◌, take, drop, length, length-append, inl, inr, refl, sym, ap, ◌∙◌, subst, append_assoc, append-nil, take-append-drop, arith}
use Rattle.std.proofs.Math.Seq.{take-append-add}
use Rattle.std.proofs.lemmas.Bool.{lt-ltb, le-ltb}
use Rattle.cspf_model.specs.Laws.{OneBestAnswer, OneRefusal}
use Rattle.cspf_ero.specs.ReplyLine.{HasOneReplyLine}
use Rattle.cspf_rows.specs.Rows.{row_of}
use Rattle.cspf_solve.specs.declared.summary.Summary.{Summary}
use Rattle.cspf_solve.specs.declared.error.SolveError.TheVariants as solve_error
use Rattle.cspf_stream.specs.Lines.{last_line}
use Rattle.cspf_solve.specs.Script.{RunState, start, at_next_row, IsRowAnswered, AreRowsAnswered, IsSolveRun, is_too_many}
use Rattle.cspf_solve.specs.OutputAtError.{AreFirstAnswered, IsBegunByRows, IsNextText}
use Rattle.cspf_solve.specs.SolveLaws.{StopsAtAPrefix}
use Rattle.cspf_solve.proofs.OneReply.{answered_once, all_once, answered_split}

abbrev Rows : Type 0
Rows = List (List (List ℕ))

abbrev IsFront : List ℕ → List ℕ → Type 0
IsFront out lines = (more : List ℕ) × (lines ≡ out ++ more)

-- the rows of `rest` that a run answers after the rows `done`; it answers at most 1,000,000 rows in
-- all
abbrev next_rows : Rows → Rows → Rows
next_rows done rest = take (1000000 - length done) rest

take_done : (rows done rest : Rows) → rows ≡ done ++ rest → length done ≤ 1000000 → take 1000000 rows ≡ done ++ next_rows done rest
take_done rows done rest split few =
    let count : 1000000 ≡ length done + (1000000 - length done) = omega (arith, few) in
    rw split (ap (λ n. take n (done ++ rest)) count ∙ take-append-add done rest (1000000 - length done))

-- The output `whole` of the whole run consists of three parts: `lines`, the lines that answer the
-- rows after `done`, and the last line.
pub record IsContinued (done rest : List (List (List ℕ))) (lines whole : List ℕ) (after : RunState) : Type 0 where
  pub second : List ℕ
  pub last : RunState
  pub too_many : Bool
  pub goes_on : AreRowsAnswered after (take (1000000 - length done) rest) second last
  pub rest_is : too_many ≡ nat_lt 1000000 (length (done ++ rest))
  pub is_whole : whole ≡ (lines ++ second) ++ last_line too_many last.changes

continued : OneBestAnswer → HasOneReplyLine → OneRefusal → (rows done rest : Rows) (lines whole : List ℕ) (after : RunState) (summary : Summary)
    → AreFirstAnswered rows done rest lines after → IsSolveRun rows whole summary → IsContinued done rest lines whole after
continued best reply one rows done rest lines whole after summary first run =
    let parts = answered_split start done (next_rows done rest) run.replies run.after
    (subst (λ r. AreRowsAnswered start r run.replies run.after) (take_done rows done rest first.split first.few) run.answered) in
    let same = all_once best reply one start done parts.first lines parts.mid after parts.front first.answered in
    record {
      second = parts.second;
      last = run.after;
      too_many = is_too_many rows;
      goes_on = subst (λ s. AreRowsAnswered s (next_rows done rest) parts.second run.after) same.1 parts.back;
      rest_is = ap (λ r. nat_lt 1000000 (length r)) first.split;
      is_whole = run.whole ∙ ap (λ r. r ++ last_line (is_too_many rows) run.after.changes) (parts.whole ∙ ap (λ l. l ++ parts.second) same.0);
    }

by_rows_front : OneBestAnswer → HasOneReplyLine → OneRefusal → (rows : Rows) (out lines : List ℕ) (summary : Summary)
    → IsBegunByRows rows out → IsSolveRun rows lines summary → IsFront out lines
by_rows_front best reply one rows out lines summary begun run =
    let c = continued best reply one rows begun.done begun.rest out lines begun.after summary begun.first run in
    (c.second ++ last_line c.too_many c.last.changes, c.is_whole ∙ append_assoc out c.second _)

-- Let the whole output begin with `lines` followed by the next text. Then `lines` followed by the
-- first bytes of the next text is a prefix of the whole output.
part_front : (lines text rest out whole : List ℕ) (size : ℕ) → whole ≡ lines ++ (text ++ rest) → out ≡ lines ++ take size text → IsFront out whole
part_front lines text rest out whole size is_whole is_out = (
  drop size text ++ rest,
  is_whole
      ∙ ap (λ t. lines ++ (t ++ rest)) (sym (take-append-drop size text))
      ∙ ap (λ t. lines ++ t) (append_assoc (take size text) (drop size text) rest)
      ∙ sym (append_assoc lines (take size text) (drop size text ++ rest))
      ∙ ap (λ t. t ++ (drop size text ++ rest)) (sym is_out),
)

take-nil : (n : ℕ) → take {A = List (List ℕ)} n [] ≡ []
take-nil zero = refl
take-nil (suc n) = refl

-- if no more rows are answered, there are no more lines of rows, and the state is unchanged
none_next : (s t : RunState) (rows : Rows) (second : List ℕ) → rows ≡ [] → AreRowsAnswered s rows second t → (second ≡ []) × (t ≡ s)
unfolding AreRowsAnswered
none_next s t rows second none answered = rw none at answered

one_next : (s t : RunState) (rows more : Rows) (fields : List (List ℕ)) (second : List ℕ) → rows ≡ fields ∷ more → AreRowsAnswered s rows second t
    → (line : List ℕ) × (next : RunState) × (rest : List ℕ) × IsRowAnswered (at_next_row s) (row_of fields) line next × (second ≡ line ++ rest)
unfolding AreRowsAnswered
one_next s t rows more fields second some answered =
    let a : AreRowsAnswered s (fields ∷ more) second t = rw some at answered in (a.0, a.1, a.2, a.3, a.4)

take-cons : (n : ℕ) (x : List (List ℕ)) (xs : Rows) → 0 < n → take n (x ∷ xs) ≡ x ∷ take (n - 1) xs
take-cons zero x xs some = absurd (omega arith)
take-cons (suc n) x xs some = ap (λ k. x ∷ take k xs) (omega arith)

-- Let a run answer no row after the rows `done`, so that its next text is its last line. Then an
-- output of `lines` and the first `size` bytes of this text is a prefix of the whole output.
last_front : (done rest : Rows) (lines whole : List ℕ) (after : RunState) (text out : List ℕ) (size : ℕ)
    → (c : IsContinued done rest lines whole after) → take (1000000 - length done) rest ≡ [] → text ≡ last_line c.too_many after.changes
    → out ≡ lines ++ take size text → IsFront out whole
last_front done rest lines whole after text out size c none is_text is_out =
    let n = none_next after c.last _ c.second none c.goes_on in
    part_front lines text [] out whole size
    (c.is_whole ∙ rw (n.0, n.1, append-nil lines, append-nil text) (ap (λ t. lines ++ t) (sym is_text))) is_out

next_front : OneBestAnswer → HasOneReplyLine → OneRefusal → (done rest : Rows) (lines whole : List ℕ) (after : RunState) (text out : List ℕ) (size : ℕ)
    → length done ≤ 1000000 → IsContinued done rest lines whole after → IsNextText done after rest text → out ≡ lines ++ take size text → IsFront out whole
next_front best reply one done [] lines whole after text out size few c next is_out =
    let few_rows : c.too_many ≡ false = c.rest_is ∙ rw (append-nil done) (le-ltb 1000000 (length done) few) in
    last_front done [] lines whole after text out size c (take-nil _) (next ∙ rw few_rows refl) is_out
next_front best reply one done (fields ∷ rest) lines whole after text out size few c (inl next) is_out =
    let n = one_next after c.last _ _ fields c.second (take-cons _ fields rest (omega (arith, next.0))) c.goes_on in
    let same = answered_once best reply one (at_next_row after) (row_of fields) n.0 text n.1 next.1 n.3 next.2 in
    let last = last_line c.too_many c.last.changes in
    let second : c.second ≡ text ++ n.2 = n.4 ∙ ap (λ t. t ++ n.2) same.0 in
    part_front lines text (n.2 ++ last) out whole size
    (c.is_whole ∙ ap (λ t. (lines ++ t) ++ last) second ∙ append_assoc lines (text ++ n.2) last ∙ ap (λ t. lines ++ t) (append_assoc text n.2 last))
    is_out
next_front best reply one done (fields ∷ rest) lines whole after text out size few c (inr next) is_out =
    let none : take (1000000 - length done) (fields ∷ rest) ≡ [] = ap (λ n. take (1000000 - n) (fields ∷ rest)) next.0 in
    let many : c.too_many ≡ true = c.rest_is ∙ lt-ltb 1000000 (length (done ++ (fields ∷ rest))) (omega (arith, next.0, length-append done (fields ∷ rest))) in
    last_front done (fields ∷ rest) lines whole after text out size c none (next.1 ∙ rw many refl) is_out

pub stopped_prefix : OneBestAnswer → HasOneReplyLine → OneRefusal → StopsAtAPrefix
stopped_prefix best reply one solve_error.Memory rows out lines summary stopped run = by_rows_front best reply one rows out lines summary stopped run
stopped_prefix best reply one solve_error.Read rows out lines summary stopped run = by_rows_front best reply one rows out lines summary stopped run
stopped_prefix best reply one (solve_error.Write written) rows out lines summary stopped run =
    let cut = stopped.0 in
    next_front best reply one cut.done cut.rest cut.lines lines cut.after cut.text out cut.size cut.first.few
    (continued best reply one rows cut.done cut.rest cut.lines lines cut.after summary cut.first run) cut.next cut.whole
