use Rattle.cspf_columns.proofs.RouterLists.{router_gap}
use Rattle.cspf_columns.proofs.routers.search.Goals as goal

pub returns-clause-gap : goal.returns-clause-gap
returns-clause-gap c = router_gap c.args.routers.now c.args.router _ c.requires c.binary_search.ensures.position
