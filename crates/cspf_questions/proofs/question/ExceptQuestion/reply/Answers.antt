use Rattle.std.proofs.lemmas.Result.{IfOk-weaker}
use Rattle.cspf_model.specs.Outcome.{answer_of}
use Rattle.cspf_questions.proofs.question.ExceptQuestion.reply.Goals as goal

pub returns : goal.returns
returns c =
    IfOk-weaker c.reply_line_as.result _ _
    (λ line reply. (answer_of c.in_ok-outcome.outcome, c.in_ok-outcome.ensures, reply))
    c.reply_line_as.ensures.line
