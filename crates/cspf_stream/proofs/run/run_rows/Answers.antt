use Rattle.csv.specs.Reading.{has_failed}
use Rattle.cspf_stream.proofs.Running.{run_ends, run_stops}
use Rattle.cspf_stream.proofs.run.run_rows.Goals as goal

pub returns-clause-whole : goal.returns-clause-whole
returns-clause-whole g c =
    run_ends g.A.Answering.answers g.A.Answering.fails g.A.Ending.last _ _ _ _ (has_failed c.answer_most-written.new.rows) _ _ _ _ _ (rw c.in_ok-ended.was at c.answer_most-written.ensures.ends) c.put_last.result
    c.put_last.ensures.same c.put_last.ensures.whole

pub returns-clause-stopped : goal.returns-clause-stopped
returns-clause-stopped g c =
    run_stops g.A.Answering.answers g.A.Answering.fails g.A.Ending.last _ _ _ _ (has_failed c.answer_most-written.new.rows) _ _ _ _ _ (rw c.in_ok-ended.was at c.answer_most-written.ensures.ends) c.put_last.result
    c.put_last.ensures.stopped
