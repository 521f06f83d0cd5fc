-- The answer to a row adds at most one to each count of a session.
use Rattle.std.proofs.Common.{◌≡◌, ℕ, ◌+◌, ◌<◌, List, Result, arith}
use Rattle.std.specs.Coded.{le_prop}
use Rattle.std.proofs.Math.Logic.{∥∥₁_elim}
use Rattle.cspf_rows.specs.declared.row.Row.{Row}
use Rattle.cspf_rows.specs.declared.row_error.RowError.{RowError}
use Rattle.cspf_solve.specs.Script.{RunState, at_next_row, IsRowAnswered}
use Rattle.cspf_solve.specs.SolveLaws.{CountsByOne}
use Rattle.cspf_solve.specs.SolverStates.{KeepsRun, AreFew}
use Rattle.cspf_c.specs.History.{IsCounted}
use Rattle.cspf_c.specs.declared.session.TakenRows.{TakenRows}

-- before each row, every count of the solver can be incremented without reaching 2^64
pub few : (taken : TakenRows) → ∥ IsCounted taken ∥₁ → AreFew taken.solver
few taken truly = record {
  rows = ∥∥₁_elim truly le_prop (λ counted. omega (arith, counted.kept.rows, counted.rows, counted.most));
  count = ∥∥₁_elim truly le_prop (λ counted. omega (arith, counted.kept.changes.count, counted.changes, counted.most));
  answers = ∥∥₁_elim truly le_prop (λ counted. omega (arith, counted.kept.answers, counted.answers, counted.most));
  refused = ∥∥₁_elim truly le_prop (λ counted. omega (arith, counted.kept.refused, counted.refused, counted.most));
}

-- If each count was at most the number of answered rows, it is at most the new number after one
-- more row is answered.
pub counted_more : CountsByOne → (old new : TakenRows) (r : Result Row RowError) (line : List ℕ) → new.answered ≡ old.answered + 1 → old.answered < 1000000
    → ((s : RunState) → KeepsRun old.solver s → (t : RunState) × KeepsRun new.solver t × IsRowAnswered (at_next_row s) r line t)
    → IsCounted old → IsCounted new
counted_more counts old new r line one room step counted =
    let a = step counted.state counted.kept in
    let further = counts counted.state a.0 r line a.2 in
    record {
      state = a.0;
      kept = a.1;
      rows = omega (arith, further.rows, counted.rows, one);
      changes = omega (arith, further.changes, counted.changes, one);
      answers = omega (arith, further.answers, counted.answers, one);
      refused = omega (arith, further.refused, counted.refused, one);
      most = omega (arith, one, room);
    }
