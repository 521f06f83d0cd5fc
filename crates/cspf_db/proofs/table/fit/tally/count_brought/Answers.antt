use Rattle.std.proofs.Common.{arith}
use Rattle.cspf_db.proofs.Tables.GoneRouters.{brings_once}
use Rattle.cspf_db.proofs.table.fit.tally.count_brought.Goals as goal

pub loop-at-preserved : goal.loop-at-preserved
loop-at-preserved c =
    let before = c.loop-at.invariant in
    let one = c.count_first_ends-brought.ensures in
    record {
      few = omega (arith, before.few, one.few);
      most = brings_once c.args.routers.now c.args.changes.now c.loop-at.at c.index-changes-at.result c.loop-at.brought c.count_first_ends-brought.result c.loop-at-test.true c.index-changes-at.is before.most one.most;
    }
