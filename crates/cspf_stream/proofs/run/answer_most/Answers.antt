use Rattle.cspf_rows.specs.Records.{rows_left}
use Rattle.csv.specs.Reading.{has_failed}
use Rattle.cspf_stream.proofs.Running.{rows_end_is}
use Rattle.cspf_stream.proofs.run.answer_most.Goals as goal

pub returns-clause-ends : goal.returns-clause-ends
returns-clause-ends g c =
    rw c.rows_end.ensures
    (rows_end_is g.A.Answering.answers g.A.Answering.fails g.A.Ending.last c.args.limit c.answer_first_rows-written.result.0 (rows_left g.R.Read.remaining c.args.rows.now)
    (rows_left g.R.Read.remaining c.answer_first_rows-written.new.rows) (has_failed c.answer_first_rows-written.new.rows) _ _ _ _ _ c.answer_first_rows-written.ensures.whole c.answer_first_rows-written.ensures.stopped)
