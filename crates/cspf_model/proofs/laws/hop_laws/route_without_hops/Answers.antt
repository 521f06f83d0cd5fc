use Rattle.cspf_model.proofs.Routes.RoutesWithoutHops.{routes_without_hops}
use Rattle.cspf_model.proofs.laws.hop_laws.route_without_hops.Goals as goal

pub returns : goal.returns
returns c = routes_without_hops
