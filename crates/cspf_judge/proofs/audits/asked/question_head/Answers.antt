use Rattle.std.proofs.Common.{inl}
use Rattle.std.proofs.lemmas.Result.{IfOk-weaker}
use Rattle.cspf_judge.proofs.QuestionHeads.{no_question, as_pair}
use Rattle.cspf_judge.proofs.audits.asked.question_head.Goals as goal

pub returns-in-Some-clause-some : goal.returns-in-Some-clause-some
returns-in-Some-clause-some c = inl (rw c.in-Some.is at c.in_ok-head.ensures.some)

pub returns-in-None-clause-some : goal.returns-in-None-clause-some
returns-in-None-clause-some c =
    IfOk-weaker c.pair_head.result _ _ (λ read begins. as_pair c.args.line.now read begins) c.pair_head.ensures.some

pub returns-in-None-clause-none : goal.returns-in-None-clause-none
returns-in-None-clause-none c =
    IfOk-weaker c.pair_head.result _ _
    (λ read none. no_question c.args.line.now read (rw c.in-None.is at c.in_ok-head.ensures.none) none)
    c.pair_head.ensures.none
