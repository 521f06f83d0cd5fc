use Rattle.cspf_model.proofs.Routes.WalkOrder.{walks_total, walks_told, routes_ranked}
use Rattle.cspf_model.proofs.laws.order_of_walks.Goals as goal

pub returns : goal.returns
returns c = record { total = walks_total; told = walks_told; ranked = routes_ranked }
