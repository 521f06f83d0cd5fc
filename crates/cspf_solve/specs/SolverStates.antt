-- In which state of a run a solver is, and how one row changes this state.
use Rattle.std.specs.Prelude.{◌≡◌, ℕ, ◌+◌, ◌^◌, ◌<◌, ◌≤◌, Bool, List, length, Result}
use Rattle.cspf_model.specs.Changes.{database_after}
use Rattle.cspf_rows.specs.declared.limits.TheConstants.{MOST_ROWS}
use Rattle.cspf_rows.specs.declared.row.Row.{Row}
use Rattle.cspf_rows.specs.declared.row_error.RowError.{RowError}
use Rattle.cspf_stream.specs.Lines.{last_line}
use Rattle.cspf_stream.specs.OpenChanges.{AreOpen}
use Rattle.cspf_stream.specs.Runs as run
use Rattle.cspf_solve.specs.declared.solver.Solver.{Solver}
use Rattle.cspf_solve.specs.Script.{RunState, at_next_row, IsRowAnswered}

-- The solver is in the state `s` of a run: it has the database of the accepted batches, and the
-- counts of this state. It keeps only the first open changes: at most one change more than a batch
-- may have.
pub record KeepsRun (solver : Solver) (s : RunState) : Type 0 where
  pub table : solver.rows.sink.table.database ≡ database_after s.accepted
  pub changes : AreOpen solver.rows.changes s.changes
  pub rows : solver.read ≡ s.rows
  pub version : solver.rows.sink.version ≡ length s.accepted
  pub answers : solver.rows.answers ≡ s.answers
  pub refused : solver.rows.refused ≡ s.refused

-- each count of the solver can be incremented without reaching 2^64
pub record AreFew (solver : Solver) : Type 0 where
  pub rows : solver.read + 1 < 2 ^ 64
  pub count : solver.rows.changes.count + 1 < 2 ^ 64
  pub answers : solver.rows.answers + 1 < 2 ^ 64
  pub refused : solver.rows.refused + 1 < 2 ^ 64

-- from the solver `old` to the solver `new`, each count grows by at most 1
pub record AreWithinOne (old new : Solver) : Type 0 where
  pub rows : new.read ≤ old.read + 1
  pub count : new.rows.changes.count ≤ old.rows.changes.count + 1
  pub answers : new.rows.answers ≤ old.rows.answers + 1
  pub refused : new.rows.refused ≤ old.rows.refused + 1

-- Private: each count of the solver is below `place`, which is the number of the next row. Rows are
-- counted from 1.
pub record AreBelow (place : ℕ) (solver : Solver) : Type 0 where
  pub rows : solver.read < place
  pub count : solver.rows.changes.count < place
  pub answers : solver.rows.answers < place
  pub refused : solver.rows.refused < place

-- Private: let the solver `old` be in a state of a run. Then the run answers `row` by `line` from
-- this state on, and the solver `new` is in the state that the run has after `row`.
pub record IsAnsweredBySolver (old : Solver) (row : Result Row RowError) (line : List ℕ) (new : Solver) : Type 0 where
  pub lead : (s : RunState) → KeepsRun old s → (after : RunState) × KeepsRun new after × IsRowAnswered (at_next_row s) row line after
  pub counts : AreWithinOne old new

-- Private: the line is the last line of a run that ends in the solver's state.
abbrev pub IsSolverLast : Solver → Bool → List ℕ → Type 0
IsSolverLast solver too_many line = (s : RunState) → KeepsRun solver s → line ≡ last_line too_many s.changes

-- Whether there are too many rows. `rest` has the rows after the first `count` rows. If there
-- aren't too many rows, `count` is at most 1,000,000, and `rest` is empty. If there are too many,
-- `count` is 1,000,000, and `rest` isn't empty.
abbrev pub IsPast : Bool → ℕ → List (List (List ℕ)) → Type 0
IsPast = run.AreBeyond MOST_ROWS

-- Private: at the end of a run the solver's counts of rows, of answers and of refusals are at most
-- 1,000,000 each.
pub record AreCounted (solver : Solver) : Type 0 where
  pub rows : solver.read ≤ MOST_ROWS
  pub answers : solver.rows.answers ≤ MOST_ROWS
  pub refused : solver.rows.refused ≤ MOST_ROWS
