-- The laws of runs of the solver.
use Rattle.std.specs.Prelude.{◌≡◌, ◌≤◌, ◌+◌, ℕ, List, [], ◌∷◌, ◌++◌, length, Result}
use Rattle.cspf_rows.specs.Rows.{row_of}
use Rattle.cspf_rows.specs.declared.row.Row.{Row}
use Rattle.cspf_rows.specs.declared.row_error.RowError.{RowError}
use Rattle.cspf_solve.specs.declared.summary.Summary.{Summary}
use Rattle.cspf_solve.specs.declared.error.SolveError.{SolveError}
use Rattle.cspf_solve.specs.Script.{RunState, at_next_row, AreRowsAnswered, IsRowAnswered, IsSolveRun}
use Rattle.cspf_solve.specs.OutputAtError.{IsOutputAtError}

-- each stream of rows has one output: two runs over the same rows have the same lines and the same
-- summary
abbrev pub HaveOneReply : Type 0
HaveOneReply = (rows : List (List (List ℕ))) (first second : List ℕ) (a b : Summary) → IsSolveRun rows first a → IsSolveRun rows second b → (first ≡ second) × (a ≡ b)

-- the output of a run that stops is a prefix of the output of the whole run
abbrev pub StopsAtAPrefix : Type 0
StopsAtAPrefix = (error : SolveError) (rows : List (List (List ℕ))) (out lines : List ℕ) (summary : Summary)
    → IsOutputAtError error rows out → IsSolveRun rows lines summary → (more : List ℕ) × (lines ≡ out ++ more)

-- Let rows be answered with `lines`, and let one more row then be answered with `line`. The list of
-- all these rows is then answered with `lines` followed by `line`.
abbrev pub GoesOnByOneRow : Type 0
GoesOnByOneRow = (s t u : RunState) (rows : List (List (List ℕ))) (fields : List (List ℕ)) (lines line : List ℕ) → AreRowsAnswered s rows lines t
    → IsRowAnswered (at_next_row t) (row_of fields) line u → AreRowsAnswered s (rows ++ (fields ∷ [])) (lines ++ line) u

-- From the state `s` to the state `t`, the count of rows grows by `n`, and each other count grows
-- by at most `n`.
pub record AreWithin (s t : RunState) (n : ℕ) : Type 0 where
  pub rows : t.rows ≡ s.rows + n
  pub changes : length t.changes ≤ length s.changes + n
  pub answers : t.answers ≤ s.answers + n
  pub refused : t.refused ≤ s.refused + n

-- the answer to a row adds at most 1 to each count of a run
abbrev pub CountsByOne : Type 0
CountsByOne = (s t : RunState) (row : Result Row RowError) (line : List ℕ) → IsRowAnswered (at_next_row s) row line t → AreWithin s t 1
