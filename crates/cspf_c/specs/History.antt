-- The rows that a session was given, and the lines with which it answered them.
use Rattle.std.specs.Prelude.{◌≡◌, ℕ, ◌≤◌, List, [], ◌∷◌, ◌++◌, length}
use Rattle.cspf_rows.specs.declared.limits.TheConstants.{MOST_ROWS}
use Rattle.cspf_solve.specs.Script.{RunState, start, AreRowsAnswered}
use Rattle.cspf_solve.specs.SolverStates.{KeepsRun, IsPast}
use Rattle.cspf_c.specs.declared.session.TakenRows.{TakenRows}

-- The session was given these rows, one after the other. The lines answer the first 1,000,000 rows,
-- or all rows if there are fewer.
pub record HasAnswered (taken : TakenRows) (rows : List (List (List ℕ))) (lines : List ℕ) : Type 0 where
  pub done : List (List (List ℕ))
  pub rest : List (List (List ℕ))
  pub after : RunState
  pub split : rows ≡ done ++ rest
  pub answered : AreRowsAnswered start done lines after
  pub kept : KeepsRun taken.solver after
  pub count : length done ≡ taken.answered
  pub past : IsPast taken.too_many taken.answered rest

-- Private: the solver is in a state of a run (`KeepsRun`). Each count of this state is at most the
-- number of answered rows.
pub record IsCounted (taken : TakenRows) : Type 0 where
  pub state : RunState
  pub kept : KeepsRun taken.solver state
  pub rows : state.rows ≡ taken.answered
  pub changes : length state.changes ≤ taken.answered
  pub answers : state.answers ≤ taken.answered
  pub refused : state.refused ≤ taken.answered
  pub most : taken.answered ≤ MOST_ROWS

-- Private: the session was given one more row, with these fields, and answered this row with this
-- line.
pub record IsOneMore (place : ℕ) (old : TakenRows) (fields : List (List ℕ)) (line : List ℕ) (new : TakenRows) : Type 0 where
  pub counted : ∥ IsCounted old ∥₁ → ∥ IsCounted new ∥₁
  pub answered : (rows : List (List (List ℕ))) (lines : List ℕ) → HasAnswered old rows lines
      → HasAnswered new (rows ++ (fields ∷ [])) (lines ++ line)
