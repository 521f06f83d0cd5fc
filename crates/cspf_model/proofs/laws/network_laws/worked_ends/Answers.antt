use Rattle.cspf_model.proofs.Networks.UnknownEnds.{is_router_1, is_router_2, no_router_3}
use Rattle.cspf_model.proofs.laws.network_laws.worked_ends.Goals as goal

pub returns : goal.returns
returns c = record { from = is_router_1; to = is_router_2; mark = no_router_3 }
