use Rattle.std.proofs.Common.{arith}
use Rattle.cspf_meet.proofs.Apart.{ahead_found}
use Rattle.cspf_graph.proofs.LinkRows.{no_elements}
use Rattle.cspf_walk.proofs.TightWalks.{route_way}
use Rattle.cspf_meet.proofs.search.is_apart.Goals as goal

pub returns-then-is_cut : goal.returns-then-is_cut
returns-then-is_cut c so route is =
    let d = c.args.query.table.now in
    let q = c.args.query.request.now in
    let way = route_way d q c.route_without_hops.ensures (no_elements q.hops c.requires.query.hops) route is in
    let there = ahead_found d q c.requires.query.listed c.args.meeting.now.ahead c.args.meeting.now.most c.if-meeting-lt-NO_WAY.false (c.is_cut.ensures.done c.if-is_cut.true) c.requires.meeting.ahead
    q.from c.args.query.from c.requires.query.from (omega (arith, c.requires.meeting.start)) route way c.args.query.to c.requires.query.to in
    omega (arith, there, c.is_cut.ensures.end c.if-is_cut.true)
