use Rattle.std.proofs.lemmas.Result.{IfOk-weaker}
use Rattle.cspf_questions.specs.declared.asked.AskedRow.TheVariants as asked_row
use Rattle.cspf_questions.specs.declared.question.Question.TheVariants as question
use Rattle.cspf_judge.specs.Asked.{asked_spec}
use Rattle.cspf_judge.proofs.Judgments.{judged_by, judged_if}
use Rattle.cspf_judge.proofs.audits.asked.is_question_reply.Goals as goal

pub returns-in-Except : goal.returns-in-Except
returns-in-Except c =
    rw c.in-Except.is (IfOk-weaker c.is_except_reply.result _ _
    (λ right test. judged_by asked_spec c.args.table.now (asked_row.Question (question.Except c.in-Except.question)) c.args.version c.args.line.now right (λ no. no) test)
    c.is_except_reply.ensures)

pub returns-in-Pair : goal.returns-in-Pair
returns-in-Pair c =
    rw c.in-Pair.is (IfOk-weaker c.is_pair_reply.result _ _
    (λ right test. judged_if asked_spec c.args.table.now (asked_row.Question (question.Pair c.in-Pair.request)) c.args.version c.args.line.now right tt test)
    c.is_pair_reply.ensures)
