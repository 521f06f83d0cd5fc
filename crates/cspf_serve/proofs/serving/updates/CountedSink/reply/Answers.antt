use Rattle.std.proofs.Common.{length, subst}
use Rattle.std.proofs.lemmas.Result.{IfOk-weaker}
use Rattle.std.specs.Prelude.{IfOk}
use Rattle.cspf_model.specs.Best.{Answer, IsBestAnswer}
use Rattle.cspf_model.specs.Changes.{database_after}
use Rattle.cspf_ero.specs.ReplyLine.{IsReply}
use Rattle.cspf_model.specs.Outcome.{answer_of}
use Rattle.cspf_serve.specs.Counted.{CountedState}
use Rattle.cspf_serve.proofs.serving.updates.CountedSink.reply.Goals as goal

pub returns-clause-line : goal.returns-clause-line
returns-clause-line g c =
    let is = c.in_ok-answer.ensures in
    subst (λ (p : CountedState g.row.J.Denot). IfOk c.reply_line.result (λ line. (answer : Answer) × IsBestAnswer (database_after p.publisher.batches) c.args.request.now answer × IsReply c.args.request.now.id (length p.publisher.batches) answer line.items))
    c.self.view_is
    (IfOk-weaker c.reply_line.result _ _ (λ line reply. (answer_of c.in_ok-answer.answer.outcome, is.best, rw (is.id, is.version) at reply)) c.reply_line.ensures.line)
