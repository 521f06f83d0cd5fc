-- How the lines and the summary of a run follow from the solver's answers, and what the output is
-- if the run stops.
use Rattle.std.proofs.Common.{◌≡◌, ℕ, suc, ◌+◌, Bool, true, List, [], ◌∷◌, ◌++◌, take, length, Option, Some, None, IfSome, Result, Ok, Err, IfOk, OnOk, inl, inr, refl, subst, ◌∙◌, arith}
use Rattle.std.proofs.KnownBytes.{Appends-nil}
use Rattle.std.specs.Io.KnownBytes.{Appends}
use Rattle.cspf_disjoint.specs.declared.error.PairError.{PairError}
use Rattle.cspf_disjoint.specs.declared.error.PairError.TheVariants as pair_error
use Rattle.cspf_rows.specs.Records.{rows_of}
use Rattle.cspf_stream.specs.RowAnswers.{AreAnswered}
use Rattle.cspf_stream.specs.Runs.{IsPrefixAnswered, HasRun, IsRunStopped}
use Rattle.cspf_stream.specs.Runs as run
use Rattle.cspf_stream.specs.StreamStops.{FailsOf}
use Rattle.cspf_stream.specs.declared.error.RunStop.{RunStop}
use Rattle.cspf_stream.specs.declared.error.RunStop.TheVariants as run_stop
use Rattle.cspf_stream.proofs.Running.{carried}
use Rattle.cspf_solve.specs.declared.summary.Summary.{Summary}
use Rattle.cspf_solve.specs.declared.error.SolveError.TheVariants as solve_error
use Rattle.cspf_solve.specs.Script.{RunState, start, summary_of}
use Rattle.cspf_solve.specs.SolverStates.{KeepsRun, AreBelow, AreCounted}
use Rattle.cspf_questions.specs.declared.kinds.QuestionKinds.{QuestionKinds}
use Rattle.cspf_questions.specs.declared.solver.QuestionSolver.{QuestionSolver}
use Rattle.cspf_questions.specs.QuestionScript.{IsFieldsAnswered, IsQuestionRun, AreFirstWithQuestions, IsBegunWithQuestions, IsNextWithQuestions, IsQuestionOutputAtError}
use Rattle.cspf_questions.specs.QuestionStates.{IsAnsweredByBoth, IsLastOfBoth, question_run_error_of}
use Rattle.cspf_questions.specs.declared.run_error.QuestionRunError.TheVariants as run_error

abbrev Rows : Type 0
Rows = List (List (List ℕ))

abbrev pub BothFail : PairError → FailsOf QuestionSolver
BothFail fault place old fields new = Unit {0}

pub none_answered : (kinds : QuestionKinds) (s : RunState) → AreAnswered (IsFieldsAnswered kinds) 1 s [] [] s
unfolding AreAnswered
none_answered kinds s = (refl, refl)

-- Two facts of the value of a result give a third one.
pub both_of : {T E : Type 0} (r : Result T E) (P Q : T → Type 0) (Q' : Type 0) → ((x : T) → P x → Q' → Q x) → IfOk r P → OnOk r Q' → IfOk r Q
both_of (Ok x) P Q Q' f p q = f x p q
both_of (Err y) P Q Q' f p q = tt

-- ---- from the solver's states to those of the run

-- before the row with this number the solver is in the state `s` of the run
record IsSolverAt (kinds : QuestionKinds) (place : ℕ) (k : QuestionSolver) (s : RunState) : Type 0 where
  kept : KeepsRun k.solver s
  below : AreBelow place k.solver
  same : k.kinds ≡ kinds

one_row : (kinds : QuestionKinds) (place : ℕ) (k k' : QuestionSolver) (s : RunState) (fields : List (List ℕ)) (line : List ℕ) → IsSolverAt kinds place k s → IsAnsweredByBoth place k fields line k'
    → (t : RunState) × IsSolverAt kinds (suc place) k' t × IsFieldsAnswered kinds place s fields line t
one_row kinds place k k' s fields line at a =
    let led = a.lead s at.kept in
    let below : AreBelow (suc place) k'.solver = record {
      rows = omega (arith, at.below.rows, a.counts.rows);
      count = omega (arith, at.below.count, a.counts.count);
      answers = omega (arith, at.below.answers, a.counts.answers);
      refused = omega (arith, at.below.refused, a.counts.refused);
    } in
    (led.0, record { kept = led.1; below = below; same = a.kinds ∙ at.same }, subst (λ c. IsFieldsAnswered c place s fields line led.0) at.same led.2)

module _ (k : QuestionSolver) (fresh : KeepsRun k.solver start) where
  led : (k' : QuestionSolver) (done : Rows) (lines : List ℕ) → AreAnswered IsAnsweredByBoth 1 k done lines k' → (t : RunState) × IsSolverAt k.kinds (1 + length done) k' t × AreAnswered (IsFieldsAnswered k.kinds) 1 start done lines t
  led k' done lines a =
      let below : AreBelow 1 k.solver = record {
        rows = omega (arith, fresh.rows);
        count = omega (arith, fresh.changes.count);
        answers = omega (arith, fresh.answers);
        refused = omega (arith, fresh.refused);
      } in
      let c = carried IsAnsweredByBoth (IsFieldsAnswered k.kinds) (IsSolverAt k.kinds) (one_row k.kinds) 1 k k' start done lines (record { kept = fresh; below = below; same = refl }) a in
      c

  pub counted_run : (too_many : Bool) (all : Option (List (List (List ℕ)))) (k' : QuestionSolver) (old new : Option (List ℕ)) → HasRun IsAnsweredByBoth IsLastOfBoth 1000000 too_many all k k' old new → AreCounted k'.solver
  counted_run too_many all k' old new run =
      let below = (led k' run.done run.lines run.answered).1.below in
      record {
        rows = omega (arith, below.rows, run.few);
        answers = omega (arith, below.answers, run.few);
        refused = omega (arith, below.refused, run.few);
      }

  -- the lines and the summary of a run that ends
  pub run_ends : (too_many : Bool) (all : Option (List (List (List ℕ)))) (k' : QuestionSolver) (old new : Option (List ℕ)) (summary : Summary) → HasRun IsAnsweredByBoth IsLastOfBoth 1000000 too_many all k k' old new
      → ((s : RunState) → KeepsRun k'.solver s → summary ≡ summary_of s too_many)
      → IfSome all (λ rows. (lines : List ℕ) × IsQuestionRun k.kinds rows lines summary × Appends old new lines)
  run_ends too_many None k' old new summary run is = tt
  run_ends too_many (Some rows) k' old new summary run is =
      let c = led k' run.done run.lines run.answered in (
        run.lines ++ run.text,
        record {
          replies = run.lines;
          after = c.0;
          answered = rw run.first.0 c.2;
          whole = rw (run.first.1, run.ends c.0 c.1.kept) refl;
          counts = rw run.first.1 (is c.0 c.1.kept);
        },
        run.written,
      )

  begun : (b : QuestionSolver) (rows : Rows) (old new : Option (List ℕ)) (a : IsPrefixAnswered IsAnsweredByBoth 1000000 (Some rows) k b old new)
      → (t : RunState) × IsSolverAt k.kinds (1 + length a.done) b t × AreFirstWithQuestions k.kinds rows a.done a.rest a.lines t
  begun b rows old new a =
      let c = led b a.done a.lines a.answered in
      (c.0, c.1, record { split = a.split; few = a.few; answered = c.2 })

  by_rows : (b : QuestionSolver) (all : Option Rows) (old new : Option (List ℕ)) → IsPrefixAnswered IsAnsweredByBoth 1000000 all k b old new → IfSome all (λ rows. (out : List ℕ) × IsBegunWithQuestions k.kinds rows out × Appends old new out)
  by_rows b None old new a = tt
  by_rows b (Some rows) old new a = let c = begun b rows old new a in (a.lines, record { done = a.done; rest = a.rest; after = c.0; first = c.2 }, a.written)

  next_text : (place : ℕ) (b k' : QuestionSolver) (s : RunState) (done rest : Rows) (text : List ℕ) → IsSolverAt k.kinds place b s → run.IsNextOutput IsAnsweredByBoth IsLastOfBoth 1000000 done b rest text k' → IsNextWithQuestions k.kinds done s rest text
  next_text place b k' s done [] text at next = next.0 s at.kept
  next_text place b k' s done (fields ∷ rest) text at (inl next) = let one = one_row k.kinds place b k' s fields text at next.1 in inl (next.0, one.0, one.2)
  next_text place b k' s done (fields ∷ rest) text at (inr next) = inr (next.0, next.1 s at.kept)

  -- the output of a run that stops
  pub run_stops : (why : RunStop PairError) (all : Option (List (List (List ℕ)))) (failed : Bool) (k' : QuestionSolver) (old new : Option (List ℕ))
      → IsRunStopped IsAnsweredByBoth BothFail IsLastOfBoth 1000000 why all failed k k' old new
      → IfSome all (λ rows. (out : List ℕ) × IsQuestionOutputAtError k.kinds (question_run_error_of why) rows out × Appends old new out)
  run_stops run_stop.Memory all failed k' old new a = by_rows k' all old new a
  run_stops run_stop.Read all failed k' old new a = by_rows k' all old new a.1
  run_stops (run_stop.Answer pair_error.Memory) all failed k' old new a = by_rows a.before all old new a.begun
  run_stops (run_stop.Answer pair_error.Undecided) all failed k' old new a = by_rows a.before all old new a.begun
  run_stops (run_stop.Write written) None failed k' old new a = tt
  run_stops (run_stop.Write written) (Some rows) failed k' old new a =
      let r = a.begun in
      let c = begun a.before rows old a.mid r in (
        r.lines ++ take a.size a.text,
        (
          record {
            done = r.done;
            rest = r.rest;
            lines = r.lines;
            after = c.0;
            first = c.2;
            text = a.text;
            next = next_text (1 + length r.done) a.before k' c.0 r.done r.rest a.text c.1 a.next;
            size = a.size;
            part = a.part;
            whole = refl;
          },
          a.bytes,
        ),
        a.written,
      )

  pub read_failed : (why : RunStop PairError) (all : Option (List (List (List ℕ)))) (failed : Bool) (k' : QuestionSolver) (old new : Option (List ℕ))
      → IsRunStopped IsAnsweredByBoth BothFail IsLastOfBoth 1000000 why all failed k k' old new → question_run_error_of why ≡ run_error.Solve solve_error.Read → failed ≡ true
  read_failed run_stop.Read all failed k' old new a is = a.0
  read_failed run_stop.Memory all failed k' old new a is = absurd (cc is)
  read_failed (run_stop.Write written) all failed k' old new a is = absurd (cc is)
  read_failed (run_stop.Answer pair_error.Memory) all failed k' old new a is = absurd (cc is)
  read_failed (run_stop.Answer pair_error.Undecided) all failed k' old new a is = absurd (cc is)

-- if a run stops before it reads its first row, its output is empty, which is the output for no
-- rows
pub halted_at_start : (kinds : QuestionKinds) (bytes old : Option (List ℕ)) → IfSome bytes (λ text. (out : List ℕ) × IsBegunWithQuestions kinds (rows_of text) out × Appends old old out)
halted_at_start kinds None old = tt
halted_at_start kinds (Some text) old = (
  [],
  record {
    done = [];
    rest = rows_of text;
    after = start;
    first = record { split = refl; few = omega arith; answered = none_answered kinds start };
  },
  Appends-nil old,
)
