use Rattle.std.proofs.Common.{◌≡◌, sym, ap, subst, arith}
use Rattle.cspf_meet.specs.Corridors.{NoneNeedsLook}
use Rattle.cspf_meet.specs.Labels.{rank_at}
use Rattle.cspf_meet.specs.Looks.{AreLookedAt, LeadsBack}
use Rattle.cspf_meet.proofs.RankBounds.{bound_of}
use Rattle.cspf_meet.proofs.search.route_of.Goals as goal

pub narrow-requires-clause-corridor : goal.narrow-requires-clause-corridor
narrow-requires-clause-corridor c =
    c.in_ok-corridor.ensures.waits c.args.query.table.now c.args.query.request.now
    (subst (AreLookedAt (LeadsBack c.args.query.table.now c.args.query.request.now) c.args.meeting.back) (sym c.head_bounds-head.ensures.most) c.requires.meeting.back)

pub follow-requires-clause-bounds : goal.follow-requires-clause-bounds
follow-requires-clause-bounds c =
    let d = c.args.query.table.now in
    let q = c.args.query.request.now in
    let heads = c.head_bounds-head.ensures.bounds d q c.requires.query.listed c.requires.meeting.ahead in
    let past = subst (NoneNeedsLook c.args.query.table.now c.args.query.request.now c.head_bounds-head.result) (sym c.deref.ensures.value) (c.in_ok-narrow.ensures.past c.if-not-branch.false) in
    let zero : rank_at c.deref.result.now c.args.query.to ≡ 0 =
    omega (arith, ap (λ rs. rank_at rs c.args.query.to) c.deref.ensures.value, c.in_ok-narrow.ensures.lower c.args.query.to, ap (λ near. rank_at near.items c.args.query.to) c.in_ok-corridor.ensures.near, c.requires.meeting.end) in
    bound_of d q c.requires.query.listed c.head_bounds-head.result c.deref.result.now heads past c.args.query.to c.requires.query.to zero
