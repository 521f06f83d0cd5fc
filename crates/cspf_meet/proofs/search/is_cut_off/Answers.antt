use Rattle.std.proofs.Common.{arith}
use Rattle.cspf_meet.proofs.Apart.{back_found}
use Rattle.cspf_graph.proofs.LinkRows.{no_elements}
use Rattle.cspf_walk.proofs.TightWalks.{route_way}
use Rattle.cspf_meet.proofs.search.is_cut_off.Goals as goal

pub returns : goal.returns
returns c so route is =
    let d = c.args.query.table.now in
    let q = c.args.query.request.now in
    let way = route_way d q c.route_without_hops.ensures (no_elements q.hops c.requires.query.hops) route is in
    let there = back_found d q c.requires.query.listed c.args.back.now c.args.most c.if-most-lt-NO_WAY.false (c.is_cut.ensures.done so) c.requires.back
    c.args.query.to c.requires.query.to c.requires.end route q.from c.args.query.from c.requires.query.from way in
    omega (arith, there, c.is_cut.ensures.end so)
