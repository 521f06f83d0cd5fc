use Rattle.cspf_model.proofs.Databases.LinksOfRows.{rows_keyed}
use Rattle.cspf_columns.proofs.RouterLists.{rising-router_list, tells_router}
use Rattle.cspf_db.proofs.table.Table.has_router.Goals as goal

pub search-requires : goal.search-requires
search-requires c = rw (c.deref.ensures.value, c.self.invariant.columns.parts.all) (rising-router_list _)

pub returns : goal.returns
returns c =
    let found = rw (c.deref.ensures.value, c.self.invariant.columns.parts.all) at c.search.ensures in
    rw (← c.self.view_is) (tells_router _ c.args.router c.search.result c.is_ok.result (rows_keyed c.self.inside.columns.rows.items) c.is_ok.ensures.value found.within found.found found.gap)
