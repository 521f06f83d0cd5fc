use Rattle.std.proofs.Common.{◌≡◌, ℕ, ◌+◌, ◌-◌, ◌*◌, ◌<◌, ◌≤◌, length, drop, length-drop, ap, arith}
use Rattle.std.proofs.lemmas.List.{take_all}
use Rattle.cspf_search.specs.Bounds.{bound_at}
use Rattle.cspf_search.proofs.LegBounds.{no_leg_more, one_leg_more, zeros_below}
use Rattle.cspf_search.proofs.bounds.set_legs.Goals as goal

pub loop-leg_index-preserved : goal.loop-leg_index-preserved
loop-leg_index-preserved c =
    let before = c.loop-leg_index.invariant in
    let within : c.loop-leg_index.leg_index - 1 ≤ length c.args.query.request.now.hops = omega (arith, before.most, c.loop-leg_index-test.true) in
    let zeros : (i : ℕ) → i < (c.loop-leg_index.leg_index - 1 + 1) * 1024 → bound_at c.loop-leg_index.bounds i ≡ 0 = λ i low. before.zeros i (omega (arith, low, c.loop-leg_index-test.true)) in
    let all = ap length c.routers-count.ensures.all in
    let few = c.routers-count.ensures.few in
    let past = (c.loop-leg_index.leg_index - 1) * 1024 + 1024 in
    let whole = take_all (length c.loop-leg_index.bounds - past) (drop past c.loop-leg_index.bounds) (omega (arith, length-drop past c.loop-leg_index.bounds)) in
    let leg = rw whole at c.in_ok-edge.ensures in
    let here = rw c.deref.ensures.value at c.set_leg.ensures.leg in
    record {
      most = omega (arith, before.most);
      bounds =
          one_leg_more c.args.query.table.now c.args.query.request.now (c.loop-leg_index.leg_index - 1) (length c.routers-count.result.now) all few c.loop-leg_index.bounds c.set_leg.new.bounds c.leg_edge.new.ring.near.items c.in_ok-edge.edge
          (omega arith) before.bounds zeros leg c.set_leg.auto.bounds here c.set_leg.ensures.others;
      zeros =
          zeros_below c.args.query.table.now c.args.query.request.now (c.loop-leg_index.leg_index - 1) (length c.routers-count.result.now) all few c.loop-leg_index.bounds c.set_leg.new.bounds c.leg_edge.new.ring.near.items c.in_ok-edge.edge
          (omega arith) before.bounds zeros leg c.set_leg.auto.bounds here c.set_leg.ensures.others;
    }

pub returns-then-is_dead_end : goal.returns-then-is_dead_end
returns-then-is_dead_end c =
    let past = (c.loop-leg_index.leg_index - 1) * 1024 + 1024 in
    let whole = take_all (length c.loop-leg_index.bounds - past) (drop past c.loop-leg_index.bounds) (omega (arith, length-drop past c.loop-leg_index.bounds)) in
    let shut = rw whole at c.is_dead_end.ensures c.if-is_dead_end.true in
    no_leg_more c.args.query.table.now c.args.query.request.now (c.loop-leg_index.leg_index - 1) c.loop-leg_index.bounds c.shut.new.bounds c.loop-leg_index.invariant.bounds shut c.shut.auto.bounds c.shut.ensures.before
    c.shut.ensures.others
