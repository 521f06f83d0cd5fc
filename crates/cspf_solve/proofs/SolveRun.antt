-- How the lines and the summary of a run follow from the solver's answers, and what the output is
-- if the run stops.
use Rattle.std.proofs.Common.{◌≡◌, ℕ, suc, ◌+◌, Bool, true, List, [], ◌∷◌, ◌++◌, take, length, Option, Some, None, IfSome, option_map, Result, Ok, Err, IfOk, IfErr, inl, inr, refl, sym, ap, subst, ◌∙◌, append_assoc, append-nil, arith}
use Rattle.std.proofs.KnownBytes.{Appends-nil}
use Rattle.std.specs.Io.KnownBytes.{Appends}
use Rattle.std.specs.declared.alloc.AllocError.{AllocError}
use Rattle.cspf_rows.specs.Records.{rows_of}
use Rattle.cspf_rows.specs.Rows.{row_of}
use Rattle.cspf_stream.specs.RowAnswers.{AnswersOf, AreAnswered}
use Rattle.cspf_stream.specs.Runs.{IsPrefixAnswered, HasRun, IsRunStopped}
use Rattle.cspf_stream.specs.Runs as run
use Rattle.cspf_stream.specs.StreamStops.{FailsOf}
use Rattle.cspf_stream.specs.declared.error.RunStop.{RunStop}
use Rattle.cspf_stream.specs.declared.error.RunStop.TheVariants as run_stop
use Rattle.cspf_stream.proofs.Running.{carried}
use Rattle.cspf_solve.specs.declared.solver.Solver.{Solver}
use Rattle.cspf_solve.specs.declared.summary.Summary.{Summary}
use Rattle.cspf_solve.specs.declared.error.SolveError.TheVariants as solve_error
use Rattle.cspf_solve.specs.Script.{RunState, start, at_next_row, IsRowAnswered, AreRowsAnswered, IsSolveRun, summary_of}
use Rattle.cspf_solve.specs.OutputAtError.{AreFirstAnswered, IsBegunByRows, IsNextText, IsOutputAtError, solve_error_of}
use Rattle.cspf_solve.specs.SolverStates.{KeepsRun, AreBelow, AreCounted, IsAnsweredBySolver, IsSolverLast}

abbrev Rows : Type 0
Rows = List (List (List ℕ))

-- How the solver answers row `place`. `SolverFails` is for a row at which memory is refused.
abbrev pub SolverAnswers : AnswersOf Solver
SolverAnswers place old fields = IsAnsweredBySolver old (row_of fields)

abbrev pub SolverFails : AllocError → FailsOf Solver
SolverFails fault place old fields new = Unit {0}

-- how a run answers a row
abbrev RunAnswers : AnswersOf RunState
RunAnswers place s fields line t = IsRowAnswered (at_next_row s) (row_of fields) line t

pub none_answered : (s : RunState) → AreRowsAnswered s [] [] s
unfolding AreRowsAnswered
none_answered s = (refl, refl)

pub answered_more : (s t u : RunState) (done : Rows) (fields : List (List ℕ)) (out line : List ℕ) → AreRowsAnswered s done out t
    → IsRowAnswered (at_next_row t) (row_of fields) line u → AreRowsAnswered s (done ++ (fields ∷ [])) (out ++ line) u
unfolding AreRowsAnswered
answered_more s t u [] fields out line before step =
    let here : IsRowAnswered (at_next_row s) (row_of fields) line u = rw before.1 at step in
    (line, u, [], here, ap (λ o. o ++ line) before.0 ∙ sym (append-nil line), (refl, refl))
answered_more s t u (row ∷ done) fields out line before step = (
  before.0,
  before.1,
  before.2 ++ line,
  before.3,
  ap (λ o. o ++ line) before.4 ∙ append_assoc before.0 before.2 line,
  answered_more before.1 t u done fields before.2 line before.5 step,
)

-- ---- from the solver's states to those of the run

-- before the row with this number the solver is in the state `s` of the run
record IsSolverAt (place : ℕ) (k : Solver) (s : RunState) : Type 0 where
  kept : KeepsRun k s
  below : AreBelow place k

one_row : (place : ℕ) (k k' : Solver) (s : RunState) (fields : List (List ℕ)) (line : List ℕ) → IsSolverAt place k s → SolverAnswers place k fields line k'
    → (t : RunState) × IsSolverAt (suc place) k' t × RunAnswers place s fields line t
one_row place k k' s fields line at a =
    let led = a.lead s at.kept in
    let below : AreBelow (suc place) k' = record {
      rows = omega (arith, at.below.rows, a.counts.rows);
      count = omega (arith, at.below.count, a.counts.count);
      answers = omega (arith, at.below.answers, a.counts.answers);
      refused = omega (arith, at.below.refused, a.counts.refused);
    } in
    (led.0, record { kept = led.1; below = below }, led.2)

all_rows : (place : ℕ) (s t : RunState) (rows : Rows) (lines : List ℕ) → AreAnswered RunAnswers place s rows lines t → AreRowsAnswered s rows lines t
unfolding AreAnswered AreRowsAnswered
all_rows place s t [] lines a = a
all_rows place s t (fields ∷ rows) lines a = (a.0, a.1, a.2, a.3, a.4, all_rows (suc place) a.1 t rows a.2 a.5)

module _ (k : Solver) (fresh : KeepsRun k start) where
  led : (k' : Solver) (done : Rows) (lines : List ℕ) → AreAnswered SolverAnswers 1 k done lines k' → (t : RunState) × IsSolverAt (1 + length done) k' t × AreRowsAnswered start done lines t
  led k' done lines a =
      let below : AreBelow 1 k = record {
        rows = omega (arith, fresh.rows);
        count = omega (arith, fresh.changes.count);
        answers = omega (arith, fresh.answers);
        refused = omega (arith, fresh.refused);
      } in
      let c = carried SolverAnswers RunAnswers IsSolverAt one_row 1 k k' start done lines (record { kept = fresh; below = below }) a in
      (c.0, c.1, all_rows 1 start c.0 done lines c.2)

  pub counted_run : (too_many : Bool) (all : Option (List (List (List ℕ)))) (k' : Solver) (old new : Option (List ℕ)) → HasRun SolverAnswers IsSolverLast 1000000 too_many all k k' old new → AreCounted k'
  counted_run too_many all k' old new run =
      let below = (led k' run.done run.lines run.answered).1.below in
      record {
        rows = omega (arith, below.rows, run.few);
        answers = omega (arith, below.answers, run.few);
        refused = omega (arith, below.refused, run.few);
      }

  -- the lines and the summary of a run that ends
  pub run_ends : (too_many : Bool) (all : Option (List (List (List ℕ)))) (k' : Solver) (old new : Option (List ℕ)) (summary : Summary) → HasRun SolverAnswers IsSolverLast 1000000 too_many all k k' old new
      → ((s : RunState) → KeepsRun k' s → summary ≡ summary_of s too_many)
      → IfSome all (λ rows. (lines : List ℕ) × IsSolveRun rows lines summary × Appends old new lines)
  run_ends too_many None k' old new summary run is = tt
  run_ends too_many (Some rows) k' old new summary run is =
      let c = led k' run.done run.lines run.answered in (
        run.lines ++ run.text,
        record {
          replies = run.lines;
          after = c.0;
          answered = rw run.first.0 c.2;
          whole = rw (run.first.1, run.ends c.0 c.1.kept) refl;
          counts = rw run.first.1 (is c.0 c.1.kept);
        },
        run.written,
      )

  begun : (b : Solver) (rows : Rows) (old new : Option (List ℕ)) (a : IsPrefixAnswered SolverAnswers 1000000 (Some rows) k b old new)
      → (t : RunState) × IsSolverAt (1 + length a.done) b t × AreFirstAnswered rows a.done a.rest a.lines t
  begun b rows old new a =
      let c = led b a.done a.lines a.answered in
      (c.0, c.1, record { split = a.split; few = a.few; answered = c.2 })

  by_rows : (b : Solver) (all : Option Rows) (old new : Option (List ℕ)) → IsPrefixAnswered SolverAnswers 1000000 all k b old new → IfSome all (λ rows. (out : List ℕ) × IsBegunByRows rows out × Appends old new out)
  by_rows b None old new a = tt
  by_rows b (Some rows) old new a = let c = begun b rows old new a in (a.lines, record { done = a.done; rest = a.rest; after = c.0; first = c.2 }, a.written)

  next_text : (place : ℕ) (b k' : Solver) (s : RunState) (done rest : Rows) (text : List ℕ) → IsSolverAt place b s → run.IsNextOutput SolverAnswers IsSolverLast 1000000 done b rest text k' → IsNextText done s rest text
  next_text place b k' s done [] text at next = next.0 s at.kept
  next_text place b k' s done (fields ∷ rest) text at (inl next) = let one = next.1.lead s at.kept in inl (next.0, one.0, one.2)
  next_text place b k' s done (fields ∷ rest) text at (inr next) = inr (next.0, next.1 s at.kept)

  -- the output of a run that stops
  pub run_stops : (why : RunStop AllocError) (all : Option (List (List (List ℕ)))) (failed : Bool) (k' : Solver) (old new : Option (List ℕ))
      → IsRunStopped SolverAnswers SolverFails IsSolverLast 1000000 why all failed k k' old new
      → IfSome all (λ rows. (out : List ℕ) × IsOutputAtError (solve_error_of why) rows out × Appends old new out)
  run_stops run_stop.Memory all failed k' old new a = by_rows k' all old new a
  run_stops run_stop.Read all failed k' old new a = by_rows k' all old new a.1
  run_stops (run_stop.Answer fault) all failed k' old new a = by_rows a.before all old new a.begun
  run_stops (run_stop.Write written) None failed k' old new a = tt
  run_stops (run_stop.Write written) (Some rows) failed k' old new a =
      let r = a.begun in
      let c = begun a.before rows old a.mid r in (
        r.lines ++ take a.size a.text,
        (
          record {
            done = r.done;
            rest = r.rest;
            lines = r.lines;
            after = c.0;
            first = c.2;
            text = a.text;
            next = next_text (1 + length r.done) a.before k' c.0 r.done r.rest a.text c.1 a.next;
            size = a.size;
            part = a.part;
            whole = refl;
          },
          a.bytes,
        ),
        a.written,
      )

  pub read_failed : (why : RunStop AllocError) (all : Option (List (List (List ℕ)))) (failed : Bool) (k' : Solver) (old new : Option (List ℕ))
      → IsRunStopped SolverAnswers SolverFails IsSolverLast 1000000 why all failed k k' old new → solve_error_of why ≡ solve_error.Read → failed ≡ true
  read_failed run_stop.Read all failed k' old new a is = a.0
  read_failed other all failed k' old new a is = absurd (cc is)

-- if a run stops before it reads its first row, its output is empty, which is the output for no
-- rows
pub halted_at_start : (bytes old : Option (List ℕ)) → IfSome bytes (λ text. (out : List ℕ) × IsBegunByRows (rows_of text) out × Appends old old out)
halted_at_start None old = tt
halted_at_start (Some text) old = (
  [],
  record {
    done = [];
    rest = rows_of text;
    after = start;
    first = record { split = refl; few = omega arith; answered = none_answered start };
  },
  Appends-nil old,
)

-- Let `o` be the bytes of a stream, if they are known, and let `p` be the rows that `f` makes of
-- them. If `Q` holds for the value of a result and the rows `p`, it holds for this value and `f` of
-- the bytes. The next lemma states the same for the error of a result.

pub ok_of_rows : {T E A B : Type 0} (r : Result T E) (o : Option A) (p : Option B) (f : A → B) (Q : T → B → Type 0) → p ≡ option_map f o
    → IfOk r (λ x. IfSome p (Q x)) → IfOk r (λ x. IfSome o (λ a. Q x (f a)))
ok_of_rows (Ok x) None p f Q e h = tt
ok_of_rows (Ok x) (Some a) p f Q e h = subst (λ p. IfSome p (Q x)) e h
ok_of_rows (Err y) o p f Q e h = tt

pub err_of_rows : {T E A B : Type 0} (r : Result T E) (o : Option A) (p : Option B) (f : A → B) (Q : E → B → Type 0) → p ≡ option_map f o
    → IfErr r (λ x. IfSome p (Q x)) → IfErr r (λ x. IfSome o (λ a. Q x (f a)))
err_of_rows (Ok x) o p f Q e h = tt
err_of_rows (Err y) None p f Q e h = tt
err_of_rows (Err y) (Some a) p f Q e h = subst (λ p. IfSome p (Q y)) e h
