-- Private: in which state of a run a solver that answers questions is, how one row changes it, and
-- which error a run has that stops.
use Rattle.std.specs.Prelude.{◌≡◌, ℕ, Bool, List}
use Rattle.cspf_disjoint.specs.declared.error.PairError.{PairError}
use Rattle.cspf_disjoint.specs.declared.error.PairError.TheVariants as pair_error
use Rattle.cspf_stream.specs.Lines.{last_line}
use Rattle.cspf_stream.specs.declared.error.RunStop.{RunStop}
use Rattle.cspf_stream.specs.declared.error.RunStop.TheVariants as run_stop
use Rattle.cspf_stream.specs.RowAnswers.{AnswersOf}
use Rattle.cspf_questions.specs.QuestionRows.{read_fields}
use Rattle.cspf_questions.specs.declared.reading.ReadFields.{ReadFields}
use Rattle.cspf_solve.specs.Script.{RunState, at_next_row}
use Rattle.cspf_solve.specs.SolverStates.{KeepsRun, AreWithinOne}
use Rattle.cspf_solve.specs.declared.error.SolveError.TheVariants as solve_error
use Rattle.cspf_questions.specs.declared.run_error.QuestionRunError.{QuestionRunError}
use Rattle.cspf_questions.specs.declared.run_error.QuestionRunError.TheVariants as run_error
use Rattle.cspf_questions.specs.QuestionScript.{IsRunRowAnswered}
use Rattle.cspf_questions.specs.declared.solver.QuestionSolver.{QuestionSolver}

-- Let the solver `old` be in a state of a run. Then the run answers the row that was read in this way
-- by `line` from this state on, and the solver `new` is in the state that the run has after the row.
-- Questions of the same kinds are answered before and after the row.
pub record IsReadTaken (old : QuestionSolver) (read : ReadFields) (line : List ℕ) (new : QuestionSolver) : Type 0 where
  pub lead : (s : RunState) → KeepsRun old.solver s
      → (after : RunState) × KeepsRun new.solver after × IsRunRowAnswered (at_next_row s) read line after
  pub counts : AreWithinOne old.solver new.solver
  pub kinds : new.kinds ≡ old.kinds

-- the same of the row with these fields, whatever its number
abbrev pub IsAnsweredByBoth : AnswersOf QuestionSolver
IsAnsweredByBoth place old fields line new = IsReadTaken old (read_fields old.kinds fields) line new

-- the line is the last line of a run that ends in the solver's state
abbrev pub IsLastOfBoth : QuestionSolver → Bool → List ℕ → Type 0
IsLastOfBoth both too_many line = (s : RunState) → KeepsRun both.solver s → line ≡ last_line too_many s.changes

-- the error of a run that stops in this way
abbrev pub question_run_error_of : RunStop PairError → QuestionRunError
question_run_error_of run_stop.Memory = run_error.Solve solve_error.Memory
question_run_error_of run_stop.Read = run_error.Solve solve_error.Read
question_run_error_of (run_stop.Write written) = run_error.Solve (solve_error.Write written)
question_run_error_of (run_stop.Answer pair_error.Memory) = run_error.Solve solve_error.Memory
question_run_error_of (run_stop.Answer pair_error.Undecided) = run_error.Undecided
