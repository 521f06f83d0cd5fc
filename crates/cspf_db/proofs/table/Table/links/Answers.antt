use Rattle.std.proofs.Common.{sym}
use Rattle.cspf_model.proofs.Databases.LinksOfRows.{rows_listed, rows_keyed}
use Rattle.cspf_columns.proofs.InterfaceRange.{links_marked}
use Rattle.cspf_columns.proofs.RowOrder.{own_keys, links_of-database_of}
use Rattle.cspf_db.proofs.table.Table.links.Goals as goal

pub returns-clause-listed : goal.returns-clause-listed
returns-clause-listed c = rw (c.as_slice.ensures.value, ← c.self.view_is) (links_marked c.self.inside.columns.rows.items c.self.inside.marks.items _ (rows_listed _ (own_keys _ c.self.invariant.columns.parts.by_key)))

pub returns-clause-most : goal.returns-clause-most
returns-clause-most c = rw c.as_slice.ensures.value c.self.invariant.columns.parts.most

pub returns-clause-once : goal.returns-clause-once
returns-clause-once c = rw c.as_slice.ensures.value (own_keys _ c.self.invariant.columns.parts.by_key)

pub returns-clause-keyed : goal.returns-clause-keyed
returns-clause-keyed c = rw (← c.self.view_is) (rows_keyed c.self.inside.columns.rows.items)

pub returns-clause-few : goal.returns-clause-few
returns-clause-few c = rw (← c.self.view_is) c.self.invariant.columns.parts.few

pub returns-clause-sorted : goal.returns-clause-sorted
returns-clause-sorted c = rw (c.as_slice.ensures.value, ← c.self.view_is) (sym (links_of-database_of _ c.self.invariant.columns.parts.by_key))
