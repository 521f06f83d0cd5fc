use Rattle.cspf_serve.proofs.BatchFronts.{nothing_begun}
use Rattle.cspf_serve.proofs.batch.batch_run.answer.Goals as goal

pub returns-in-Err-clause-stopped : goal.returns-in-Err-clause-stopped
returns-in-Err-clause-stopped g c =
    nothing_begun c.args.streams.accept_torn (g.R.Read.remaining c.args.streams.journal) (g.Q.Read.remaining c.args.streams.requests) (g.W.Write.contents c.args.writer.now)
