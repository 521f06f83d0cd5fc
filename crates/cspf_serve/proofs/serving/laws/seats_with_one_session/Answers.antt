use Rattle.cspf_serve.proofs.FreshLines.{one_session}
use Rattle.cspf_serve.proofs.serving.laws.seats_with_one_session.Goals as goal

pub returns : goal.returns
returns g c = one_session g.V.Reopens.reopens
