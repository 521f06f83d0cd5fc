use Rattle.std.proofs.Common.{IfOk, subst}
use Rattle.cspf_model.specs.Database.{Database}
use Rattle.cspf_questions.specs.QuestionLines.{IsExceptReply}
use Rattle.cspf_questions.proofs.question.ExceptQuestion.reply_from.Goals as goal

pub returns : goal.returns
returns c =
    subst (λ (d : Database). IfOk c.reply.result (λ line. IsExceptReply d c.args.version c.args.self.now line.items)) c.in_ok-copy.ensures c.reply.ensures
