-- How one more row changes a session, and how all rows of a stream change it.
use Rattle.std.proofs.Common.{◌≡◌, ℕ, suc, ◌+◌, ◌<◌, ◌≤◌, Bool, true, false, List, [], ◌∷◌, ◌++◌, take, length, length-append, refl, sym, ap, subst, ◌∙◌, append_assoc, append-nil, arith}
use Rattle.std.proofs.Math.Logic.{∥∥₁_map}
use Rattle.std.proofs.lemmas.Bool.{lt-ltb, le-ltb}
use Rattle.std.proofs.lemmas.List.{take_all, take_at}
use Rattle.cspf_rows.specs.Rows.{row_of}
use Rattle.cspf_stream.specs.RowAnswers.{AreAnswered as AreTaken}
use Rattle.cspf_stream.specs.Lines.{last_line}
use Rattle.cspf_solve.specs.Script.{RunState, start, at_next_row, IsRowAnswered, AreRowsAnswered, IsSolveRun, is_too_many, summary_of}
use Rattle.cspf_solve.specs.SolveLaws.{CountsByOne, GoesOnByOneRow}
use Rattle.cspf_solve.specs.declared.summary.Summary.{Summary}
use Rattle.cspf_solve.specs.SolverStates.{KeepsRun, IsPast}
use Rattle.cspf_c.specs.History.{HasAnswered, IsCounted, IsOneMore}
use Rattle.cspf_c.specs.declared.session.TakenRows.{TakenRows}
use Rattle.cspf_stream.proofs.Running.{rows_read}
use Rattle.cspf_solve.proofs.SolveRun.{none_answered}
use Rattle.cspf_c.proofs.RowCounts.{counted_more}

abbrev Rows : Type 0
Rows = List (List (List ℕ))

-- a new session was given no rows, and has answered with no lines
pub none_given : (taken : TakenRows) → KeepsRun taken.solver start → taken.answered ≡ 0 → taken.too_many ≡ false → HasAnswered taken [] []
none_given taken kept none few = record {
  done = [];
  rest = [];
  after = start;
  split = refl;
  answered = none_answered start;
  kept = kept;
  count = sym none;
  past = rw few (refl, omega (arith, none));
}

-- ---- a row that is answered

-- if a session has answered fewer than 1,000,000 rows, it has answered each row that it was given
none_past : (too_many : Bool) (count : ℕ) (rest : Rows) → IsPast too_many count rest → count < 1000000 → (rest ≡ []) × (too_many ≡ false)
none_past false count rest past room = (past.0, refl)
none_past true count rest past room = let wrong : ⊥ = omega (arith, past.1, room) in absurd wrong

has_more : GoesOnByOneRow → (old new : TakenRows) (line : List ℕ) (rows : Rows) (lines : List ℕ) (fields : List (List ℕ)) → new.answered ≡ old.answered + 1 → new.too_many ≡ old.too_many
    → old.answered < 1000000 → ((s : RunState) → KeepsRun old.solver s → (t : RunState) × KeepsRun new.solver t × IsRowAnswered (at_next_row s) (row_of fields) line t)
    → HasAnswered old rows lines → HasAnswered new (rows ++ (fields ∷ [])) (lines ++ line)
has_more more old new line rows lines fields one same room step has =
    let a = step has.after has.kept in
    let none = none_past old.too_many old.answered has.rest has.past room in
    record {
      done = has.done ++ (fields ∷ []);
      rest = [];
      after = a.0;
      split = ap (λ r. r ++ (fields ∷ [])) (has.split ∙ rw none.0 (append-nil has.done)) ∙ sym (append-nil (has.done ++ (fields ∷ [])));
      answered = more start has.after a.0 has.done fields lines line has.answered a.2;
      kept = a.1;
      count = length-append has.done (fields ∷ []) ∙ ap (λ n. n + 1) has.count ∙ sym one;
      past = rw (same, none.1) (refl, omega (arith, one, room));
    }

pub one_more : GoesOnByOneRow → CountsByOne → (place : ℕ) (old new : TakenRows) (fields : List (List ℕ)) (line : List ℕ) → new.answered ≡ old.answered + 1 → new.too_many ≡ old.too_many
    → old.answered < 1000000 → ((s : RunState) → KeepsRun old.solver s → (t : RunState) × KeepsRun new.solver t × IsRowAnswered (at_next_row s) (row_of fields) line t)
    → IsOneMore place old fields line new
one_more more counts place old new fields line one same room step = record {
  counted = λ counted. ∥∥₁_map counted (counted_more counts old new (row_of fields) line one room step);
  answered = λ rows lines has. has_more more old new line rows lines fields one same room step has;
}

-- ---- a row past the 1,000,000th

-- if a session has answered 1,000,000 rows, and one more row is given, this row isn't answered, and
-- the session has too many rows
one_past : (too_many : Bool) (count : ℕ) (rest : Rows) (fields : List (List ℕ)) → IsPast too_many count rest → 1000000 ≤ count → IsPast true count (rest ++ (fields ∷ []))
one_past false count rest fields past full = (omega (arith, length-append rest (fields ∷ [])), omega (arith, past.1, full))
one_past true count rest fields past full = (omega (arith, length-append rest (fields ∷ [])), past.1)

pub counted_still : (old : TakenRows) → IsCounted old → IsCounted (record old { too_many = true })
counted_still old counted = record {
  state = counted.state;
  kept = counted.kept;
  rows = counted.rows;
  changes = counted.changes;
  answers = counted.answers;
  refused = counted.refused;
  most = counted.most;
}

pub one_past_all : (place : ℕ) (old new : TakenRows) (fields : List (List ℕ)) → new ≡ record old { too_many = true } → 1000000 ≤ old.answered → IsOneMore place old fields [] new
one_past_all place old new fields is full = rw is (record {
  counted = λ counted. ∥∥₁_map counted (counted_still old);
  answered = λ rows lines has. record {
    done = has.done;
    rest = has.rest ++ (fields ∷ []);
    after = has.after;
    split = ap (λ r. r ++ (fields ∷ [])) has.split ∙ append_assoc has.done has.rest (fields ∷ []);
    answered = rw (append-nil lines) has.answered;
    kept = has.kept;
    count = has.count;
    past = one_past old.too_many old.answered has.rest fields has.past full;
  };
})

-- ---- all rows of a stream

pub all_counted : (place : ℕ) (old new : TakenRows) (more : Rows) (out : List ℕ) → AreTaken IsOneMore place old more out new → ∥ IsCounted old ∥₁ → ∥ IsCounted new ∥₁
unfolding AreTaken
all_counted place old new [] out a counted = rw a.1 counted
all_counted place old new (fields ∷ more) out a counted = all_counted (suc place) a.1 new more a.2 a.5 (a.3.counted counted)

pub all_answered : (place : ℕ) (old new : TakenRows) (more : Rows) (out : List ℕ) (rows : Rows) (lines : List ℕ)
    → AreTaken IsOneMore place old more out new → HasAnswered old rows lines → HasAnswered new (rows ++ more) (lines ++ out)
unfolding AreTaken
all_answered place old new [] out rows lines a has = rw (a.0, a.1, append-nil rows, append-nil lines) has
all_answered place old new (fields ∷ more) out rows lines a has =
    let one = a.3.answered rows lines has in
    let rest = all_answered (suc place) a.1 new more a.2 (rows ++ (fields ∷ [])) (lines ++ a.0) a.5 one in
    rw a.4 (subst (λ (l : List ℕ). HasAnswered new (rows ++ (fields ∷ more)) l) (append_assoc lines a.0 a.2)
    (subst (λ (r : Rows). HasAnswered new r ((lines ++ a.0) ++ a.2)) (append_assoc rows (fields ∷ []) more) rest))

-- ---- the last line

pub ended : (taken : TakenRows) (rows : Rows) (lines last : List ℕ) → ((s : RunState) → KeepsRun taken.solver s → last ≡ last_line taken.too_many s.changes)
    → HasAnswered taken rows lines → (summary : Summary) × IsSolveRun rows (lines ++ last) summary
ended taken rows lines last line has =
    let read = rows_read 1000000 taken.too_many rows has.done has.rest has.split (rw has.count has.past) in (
      summary_of has.after taken.too_many,
      record {
        replies = lines;
        after = has.after;
        answered = rw read.0 has.answered;
        whole = rw read.1 (ap (λ l. lines ++ l) (line has.after has.kept));
        counts = rw read.1 refl;
      },
    )
