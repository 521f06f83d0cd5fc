use Rattle.cspf_model.proofs.Batches.RouterSets.{full-first}
use Rattle.cspf_db.proofs.table.fit.router_set.Routers.add_ends.Goals as goal

pub returns-else-add-clause-full : goal.returns-else-add-clause-full
returns-else-add-clause-full c =
    rw c.if-add.false
    (full-first c.args.self.now c.args.link.now (rw c.number.ensures at c.if-add.ensures.full))
