use Rattle.cspf_rows.proofs.RowsOfSteps.{steps_of_rows}
use Rattle.cspf_rows.proofs.laws.rows_have_one_step.Goals as goal

pub returns : goal.returns
returns c = steps_of_rows
