use Rattle.cspf_judge.proofs.QuestionHeads.{neither}
use Rattle.cspf_judge.proofs.audits.asked.AskedRowAsks.head.Goals as goal

pub returns-in-None-clause-none : goal.returns-in-None-clause-none
returns-in-None-clause-none c = neither c.args.line.now c.reply_head.result (rw c.in-None.is at c.in_ok-head.ensures.none) c.reply_head.ensures.none
