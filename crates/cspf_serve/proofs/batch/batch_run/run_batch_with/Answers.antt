use Rattle.cspf_serve.proofs.BatchLines.{script_of_run}
use Rattle.cspf_serve.proofs.batch.batch_run.run_batch_with.Goals as goal

pub returns-clause-script : goal.returns-clause-script
returns-clause-script g c = λ is.
    script_of_run c.lines_of_a_script.ensures c.args.accept_torn (g.R.Read.remaining c.args.journal) (g.Q.Read.remaining c.args.requests)
    (g.W.Write.contents c.args.writer.now) (g.W.Write.contents c.answer.new.writer) c.answer.result c.answer.ensures.whole is
