use Rattle.cspf_model.proofs.Databases.LastChanges.{at_their_keys}
use Rattle.cspf_model.proofs.Databases.CountedRouters.{routers_counted}
use Rattle.cspf_model.proofs.Databases.DistinctRouters.{length-le-router_count}
use Rattle.cspf_model.proofs.laws.counted_routers.Goals as goal

pub returns : goal.returns
returns c =
    record { counted = routers_counted; distinct = length-le-router_count; at_their_keys = at_their_keys }
