use Rattle.cspf_model.proofs.Batches.RouterSets.{full-put}
use Rattle.cspf_db.proofs.table.fit.router_count.add_puts.Goals as goal

pub returns-then-not-add_ends-clause-full : goal.returns-then-not-add_ends-clause-full
returns-then-not-add_ends-clause-full c =
    full-put c.loop-change.routers c.args.routers.now c.change-item.result c.in-Put.link
    c.args.changes.now c.loop-change.change-index c.loop-change-test.true c.change-item.is
    c.in-Put.is c.loop-change.invariant.left
    c.if-not-add_ends.ensures.full
