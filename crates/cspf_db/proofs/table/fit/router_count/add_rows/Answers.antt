use Rattle.cspf_model.proofs.Batches.RouterSets.{full-row}
use Rattle.cspf_db.proofs.table.fit.router_count.add_rows.Goals as goal

pub returns-then-not-add_ends-clause-full : goal.returns-then-not-add_ends-clause-full
returns-then-not-add_ends-clause-full c =
    full-row c.loop-row.routers c.args.routers.now c.row-item.result c.args.rows.now
    c.args.changes.now c.loop-row.row-index c.loop-row-test.true c.row-item.is
    c.if-is_untouched.ensures c.loop-row.invariant.left
    c.if-not-add_ends.ensures.full
