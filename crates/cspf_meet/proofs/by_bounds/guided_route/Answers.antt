use Rattle.std.proofs.Common.{◌≡◌, sym, ap, subst, arith}
use Rattle.cspf_meet.specs.Corridors.{NoneNeedsLook}
use Rattle.cspf_meet.specs.Labels.{rank_at}
use Rattle.cspf_meet.specs.Looks.{AreLookedAt, LeadsBack}
use Rattle.cspf_meet.proofs.Guiding.{bound_guided}
use Rattle.cspf_meet.proofs.by_bounds.guided_route.Goals as goal

pub narrow-requires-clause-corridor : goal.narrow-requires-clause-corridor
narrow-requires-clause-corridor g c =
    let d = c.args.query.table.now in
    let q = c.args.query.request.now in
    c.in_ok-corridor.ensures.waits d q (subst (AreLookedAt (LeadsBack d q) c.args.back) (sym c.head_of-head.ensures.most) c.requires.back)

pub follow-requires-clause-bounds : goal.follow-requires-clause-bounds
follow-requires-clause-bounds g c =
    let d = c.args.query.table.now in
    let q = c.args.query.request.now in
    let bound = g.B.LowerBounds.bound_of c.args.bounds.now in
    let head = c.head_of-head in
    let past = subst (NoneNeedsLook c.args.query.table.now c.args.query.request.now c.head_of-head.result) (sym c.deref.ensures.value) (c.in_ok-narrow.ensures.past c.if-not-branch.false) in
    let zero : rank_at c.deref.result.now c.args.query.to ≡ 0 =
    omega (arith, ap (λ rs. rank_at rs c.args.query.to) c.deref.ensures.value, c.in_ok-narrow.ensures.lower c.args.query.to, ap (λ near. rank_at near.items c.args.query.to) c.in_ok-corridor.ensures.near, c.requires.end) in
    bound_guided d q bound c.requires.query.listed c.requires.bounds c.args.guided.now head.result c.deref.result.now head.ensures.ahead head.ensures.edge head.ensures.most c.requires.guided
    (c.is_finished.ensures c.if-not-is_finished.false bound) past c.args.query.to c.requires.query.to zero
