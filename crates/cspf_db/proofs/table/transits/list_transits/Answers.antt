use Rattle.std.proofs.Common.{arith}
use Rattle.std.proofs.lemmas.Grind.{common_steps}
use Rattle.cspf_db.proofs.Tables.TransitColumn.{still_below}
use Rattle.cspf_db.proofs.table.transits.list_transits.Goals as goal

pub loop-router-preserved : goal.loop-router-preserved
loop-router-preserved c =
    let been = c.loop-router.invariant in
    let at = c.loop-router.router-index in
    record {
      each = grind (arith, common_steps);
      len = omega (arith, c.push_reserved.ensures.len, been.len);
      bound = c.skip_below-next.ensures.bound;
      below = still_below c.args.marks.now c.args.routers.now c.loop-router.next c.skip_below-next.result at c.router-item.result c.requires.routers c.loop-router-test.true c.router-item.is been.below c.skip_below-next.ensures.below;
      capacity = omega (arith, c.push_reserved.ensures.capacity, been.capacity);
    }
