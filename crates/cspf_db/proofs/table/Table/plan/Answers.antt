use Rattle.cspf_model.proofs.Batches.LeastReasons.{refused_unfit}
use Rattle.cspf_db.proofs.Tables.Plans.{plan_of_rows}
use Rattle.cspf_db.proofs.table.Table.plan.Goals as goal

pub returns-in-Ok-clause-ok : goal.returns-in-Ok-clause-ok
returns-in-Ok-clause-ok c =
    let is = c.self.invariant in
    let found = rw c.deref.ensures.value at c.in-Ok.ensures in
    rw (← c.self.view_is)
    (plan_of_rows c.self.inside.columns.rows.items c.self.inside.marks.items is.columns.parts.by_key c.self.inside.columns.routers.items is.columns.parts.all c.args.batch.now _ found.ok found.tally.added found.tally.listed found.tally.alike)

pub returns-in-Err-clause-unfit : goal.returns-in-Err-clause-unfit
returns-in-Err-clause-unfit c = refused_unfit c.args.self.now c.args.batch.now c.in-Err.why (rw (c.deref.ensures.value, c.self.view_is) at c.in-Err.ensures.err)
