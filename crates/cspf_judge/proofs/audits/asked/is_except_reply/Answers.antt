use Rattle.cspf_judge.proofs.OneExceptLine.{told_right}
use Rattle.cspf_judge.proofs.audits.asked.is_except_reply.Goals as goal

pub returns : goal.returns
returns c =
    told_right c.args.table.now c.args.version c.args.question.now c.in_ok-reply.reply.items c.deref.result.now c.args.line.now c.is_line.result
    c.deref.ensures.value c.in_ok-reply.ensures c.is_line.ensures
