use Rattle.cspf_serve.proofs.FreshLines.{fresh_runs}
use Rattle.cspf_serve.proofs.serving.laws.served_replies_are_fresh.Goals as goal

pub returns : goal.returns
returns g c = fresh_runs g.row.W.Denot g.row.J.Denot g.V.Reopens.reopens
