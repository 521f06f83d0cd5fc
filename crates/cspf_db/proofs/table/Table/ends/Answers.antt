use Rattle.cspf_columns.specs.Index.{router_list}
use Rattle.cspf_columns.proofs.RowOrder.{links_of-database_of}
use Rattle.cspf_db.proofs.table.Table.ends.Goals as goal

pub returns-clause-within : goal.returns-clause-within
unfolding router_list
returns-clause-within c =
    rw (c.as_slice.ensures.value, ← c.self.view_is, ← c.self.invariant.columns.parts.all) c.self.invariant.columns.parts.ends.within

pub returns-clause-each : goal.returns-clause-each
unfolding router_list
returns-clause-each c =
    rw (c.as_slice.ensures.value, ← c.self.view_is, ← c.self.invariant.columns.parts.all, links_of-database_of _ c.self.invariant.columns.parts.by_key) c.self.invariant.columns.parts.ends.each
