use Rattle.cspf_columns.proofs.RouterLists.{span_at, ends_at_part}
use Rattle.cspf_db.proofs.table.Table.ends_at.Goals as goal

pub returns-clause-each : goal.returns-clause-each
returns-clause-each c =
    let parts = c.self.invariant.columns.parts in
    let rows = c.self.inside.columns.rows.items in
    let routers = c.self.inside.columns.routers.items in
    let span = c.index-span.result.now in
    let part = span_at c.args.self.now rows c.self.inside.marks.items routers c.self.inside.columns.spans.items c.args.at span c.self.view_is parts.by_key parts.all c.self.invariant.columns.spans c.requires c.index-span.ensures in
    rw (c.deref.ensures.value, c.from.ensures, c.from-2.ensures)
    (ends_at_part c.args.self.now rows c.self.inside.marks.items routers c.self.inside.columns.ends.items span.first span.end c.args.at c.self.view_is parts.all parts.ends part)
