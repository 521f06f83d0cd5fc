use Rattle.cspf_solve.proofs.RowCounts.{within_row}
use Rattle.cspf_solve.proofs.SolveRun.{answered_more}
use Rattle.cspf_solve.proofs.laws.runs_go_on_row_by_row.Goals as goal

pub returns-clause-more : goal.returns-clause-more
returns-clause-more c = answered_more

pub returns-clause-counts : goal.returns-clause-counts
returns-clause-counts c = within_row
