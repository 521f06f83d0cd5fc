use Rattle.cspf_columns.proofs.RouterLists.{span_at}
use Rattle.cspf_db.proofs.table.Table.out_at.Goals as goal

pub returns : goal.returns
returns c =
    let parts = c.self.invariant.columns.parts in
    let part = span_at c.args.self.now c.self.inside.columns.rows.items c.self.inside.marks.items c.self.inside.columns.routers.items c.self.inside.columns.spans.items c.args.at c.index-span.result.now c.self.view_is parts.by_key parts.all
    c.self.invariant.columns.spans c.requires c.index-span.ensures in
    rw (c.deref.ensures.value, c.from.ensures, c.from-2.ensures) part
