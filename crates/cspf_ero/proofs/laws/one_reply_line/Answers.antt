use Rattle.cspf_ero.proofs.OneLine.{one_reply_line}
use Rattle.cspf_ero.proofs.laws.one_reply_line.Goals as goal

pub returns : goal.returns
returns c = one_reply_line
