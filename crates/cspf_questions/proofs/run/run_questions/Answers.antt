use Rattle.std.proofs.lemmas.Result.{err_from_is_err_and}
use Rattle.cspf_solve.proofs.SolveRun.{ok_of_rows, err_of_rows}
use Rattle.cspf_questions.proofs.QuestionRuns.{halted_at_start}
use Rattle.cspf_questions.proofs.run.run_questions.Goals as goal

pub returns-in_err-with_trees-clause-stopped : goal.returns-in_err-with_trees-clause-stopped
returns-in_err-with_trees-clause-stopped g c =
    let stopped = err_from_is_err_and c.from_residual.result c.from_residual.ensures.1 in
    rw (stopped.1, stopped.2) (halted_at_start c.args.kinds (g.R.Read.remaining c.args.reader) (g.W.Write.contents c.args.writer.now))

pub returns-clause-whole : goal.returns-clause-whole
returns-clause-whole g c = ok_of_rows _ _ _ _ _ c.open_records-rows.ensures.rows c.solve_rows.ensures.whole

pub returns-clause-stopped : goal.returns-clause-stopped
returns-clause-stopped g c = err_of_rows _ _ _ _ _ c.open_records-rows.ensures.rows c.solve_rows.ensures.stopped
