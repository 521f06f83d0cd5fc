use Rattle.cspf_columns.proofs.ReverseColumn.{tells_reverse, reverse_test}
use Rattle.cspf_db.proofs.table.Table.has_reverse.Goals as goal

pub returns : goal.returns
returns c =
    reverse_test c.args.self.now c.args.link.now c.reverse_index.result
    (tells_reverse c.args.self.now c.self.inside.columns.rows.items c.self.inside.marks.items c.self.view_is c.self.invariant.columns.parts.by_key c.args.link.now c.reverse_index.result (rw c.deref.ensures.value at c.reverse_index.ensures))
