use Rattle.csv.specs.Reading.{has_failed}
use Rattle.cspf_rows.specs.Records.{rows_left}
use Rattle.cspf_stream.specs.StreamStops.{NeverFails}
use Rattle.cspf_stream.proofs.Going.{all_answered, all_stopped}
use Rattle.cspf_stream.proofs.stream.answer_rows.Goals as goal

pub returns-clause-whole : goal.returns-clause-whole
returns-clause-whole g c = all_answered g.A.Answering.answers NeverFails c.answer_first_rows.result.0 _ (rows_left g.R.Read.remaining c.answer_first_rows.new.rows) (has_failed c.answer_first_rows.new.rows) _ _ _ _ c.answer_first_rows.result.1 _ c.answer_first_rows.ensures.whole

pub returns-clause-stopped : goal.returns-clause-stopped
returns-clause-stopped g c = all_stopped g.A.Answering.answers g.A.Answering.fails c.answer_first_rows.result.0 _ _ _ _ _ _ _ c.answer_first_rows.result.1 _ c.answer_first_rows.ensures.stopped
