use Rattle.cspf_columns.proofs.ReverseColumn.{reverses_at_span}
use Rattle.cspf_db.proofs.table.Table.reverses_at.Goals as goal

pub returns-clause-many : goal.returns-clause-many
returns-clause-many c =
    rw (c.deref.ensures.value, c.from.ensures, c.from-2.ensures) (reverses_at_span c.args.self.now c.self.inside.columns c.self.inside.marks.items c.self.invariant.columns c.self.view_is c.args.at c.index-span.result.now c.requires c.index-span.ensures).0

pub returns-clause-each : goal.returns-clause-each
returns-clause-each c =
    rw (c.deref.ensures.value, c.from.ensures, c.from-2.ensures) (reverses_at_span c.args.self.now c.self.inside.columns c.self.inside.marks.items c.self.invariant.columns c.self.view_is c.args.at c.index-span.result.now c.requires c.index-span.ensures).1
