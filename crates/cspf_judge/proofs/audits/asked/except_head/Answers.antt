use Rattle.std.proofs.Common.{codes, refl}
use Rattle.std.proofs.lemmas.Result.{IfOk-weaker}
use Rattle.cspf_judge.proofs.QuestionHeads.{no_word}
use Rattle.cspf_judge.proofs.audits.asked.except_head.Goals as goal

pub returns-in-Some-clause-none : goal.returns-in-Some-clause-none
returns-in-Some-clause-none c =
    IfOk-weaker c.head_behind.result _ _
    (λ read none. no_word (codes "except") 6 (λ rest. refl) c.args.line.now c.in-Some.behind.now read c.in-Some.ensures.cases.1 none)
    c.head_behind.ensures.none
