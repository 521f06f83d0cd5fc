use Rattle.csv.specs.Reading.{has_failed}
use Rattle.cspf_rows.specs.Records.{rows_left}
use Rattle.cspf_client.proofs.client.answer_all.Goals as goal

pub returns-in-Err-clause-stopped : goal.returns-in-Err-clause-stopped
returns-in-Err-clause-stopped g c = record {
  stop = c.in-Err.stop;
  error = c.of.ensures;
  left = rows_left g.Q.Read.remaining c.answer_rows.new.rows;
  failed = has_failed c.answer_rows.new.rows;
  stopped = c.in-Err.ensures.stopped;
}
