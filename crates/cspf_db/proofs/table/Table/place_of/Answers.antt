use Rattle.cspf_model.proofs.Databases.LinksOfRows.{rows_keyed}
use Rattle.cspf_columns.proofs.RouterLists.{rising-router_list, none_from_search}
use Rattle.cspf_db.proofs.table.Table.place_of.Goals as goal

pub search-requires : goal.search-requires
search-requires c = rw (c.deref.ensures.value, c.self.invariant.columns.parts.all) (rising-router_list _)

pub returns-clause-none : goal.returns-clause-none
returns-clause-none c =
    rw (← c.self.view_is) (none_from_search _ c.args.router c.search.result _ (rows_keyed c.self.inside.columns.rows.items) c.ok.ensures.value (rw (c.deref.ensures.value, c.self.invariant.columns.parts.all) at c.search.ensures.gap))
