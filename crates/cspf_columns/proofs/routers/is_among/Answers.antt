use Rattle.cspf_columns.proofs.RouterLists.{among_from_search}
use Rattle.cspf_columns.proofs.routers.is_among.Goals as goal

pub returns : goal.returns
returns c = among_from_search c.args.routers.now c.args.router c.search.result c.is_ok.result c.is_ok.ensures.value c.search.ensures.within c.search.ensures.found
