use Rattle.cspf_judge.proofs.ReplyComparison.{feed_behind}
use Rattle.cspf_judge.proofs.audits.comparing.is_line.Goals as goal

pub returns-in-Some : goal.returns-in-Some
returns-in-Some c =
    feed_behind c.args.bytes.now c.in-Some.text.now c.args.line.now c.eq.result c.in-Some.ensures.cases.0 c.in-Some.ensures.cases.1 c.eq.ensures
