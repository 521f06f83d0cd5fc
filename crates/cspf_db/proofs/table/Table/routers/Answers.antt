use Rattle.cspf_model.proofs.Databases.LinksOfRows.{rows_keyed}
use Rattle.cspf_columns.proofs.RouterLists.{Contains-router_list, rising-router_list, increasing, length-router_list}
use Rattle.cspf_db.proofs.table.Table.routers.Goals as goal

pub returns-clause-known : goal.returns-clause-known
returns-clause-known c router = rw (c.as_slice.ensures.value, ← c.self.view_is, c.self.invariant.columns.parts.all) (Contains-router_list _ (rows_keyed c.self.inside.columns.rows.items) router)

pub returns-clause-rising : goal.returns-clause-rising
returns-clause-rising c = rw (c.as_slice.ensures.value, c.self.invariant.columns.parts.all) (increasing _ (rising-router_list _))

pub returns-clause-few : goal.returns-clause-few
returns-clause-few c = rw (c.as_slice.ensures.value, c.self.invariant.columns.parts.all, length-router_list) c.self.invariant.columns.parts.few
