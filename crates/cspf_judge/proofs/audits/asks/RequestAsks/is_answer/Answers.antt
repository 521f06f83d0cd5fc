use Rattle.std.proofs.lemmas.Result.{IfOk-weaker}
use Rattle.cspf_judge.proofs.Judgments.{judged_by}
use Rattle.cspf_judge.specs.Findings.{request_spec}
use Rattle.cspf_judge.proofs.audits.asks.RequestAsks.is_answer.Goals as goal

pub returns : goal.returns
returns c =
    IfOk-weaker c.is_right_reply.result _ _
    (λ right test. judged_by request_spec c.args.table.now c.args.self.now c.args.version c.args.line.now right (λ no. no) test)
    c.is_right_reply.ensures
