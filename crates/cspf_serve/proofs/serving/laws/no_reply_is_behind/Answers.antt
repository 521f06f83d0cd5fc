use Rattle.cspf_serve.proofs.FreshLines.{not_behind}
use Rattle.cspf_serve.proofs.serving.laws.no_reply_is_behind.Goals as goal

pub returns : goal.returns
returns c = not_behind c.one_head.ensures
