use Rattle.std.proofs.Common.{length, ap, arith}
use Rattle.cspf_search.proofs.LegBounds.{leg_of_ring}
use Rattle.cspf_search.proofs.bounds.leg_edge.Goals as goal

pub returns : goal.returns
returns c =
    let many = ap length c.routers.ensures.all in
    let edge = rw (c.deref.ensures.value, c.deref-2.ensures.value) at c.least_open.ensures in
    leg_of_ring c.args.query.table.now c.args.query.request.now c.args.leg_index c.search_back.new.ring c.least_open.result c.in_ok-search_back.ensures.ring (λ w low. edge w (omega (arith, low, many)))
    c.args.ahead.now c.in_ok-search_back.ensures.targets
