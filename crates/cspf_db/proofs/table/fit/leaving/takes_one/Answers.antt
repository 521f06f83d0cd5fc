use Rattle.cspf_columns.proofs.RouterLists.{rising-router_list}
use Rattle.cspf_db.proofs.table.fit.leaving.takes_one.Goals as goal

pub search-requires : goal.search-requires
search-requires c = rw (c.deref-2.ensures.value, c.requires.columns.parts.all) (rising-router_list _)
