use Rattle.std.proofs.Common.{◌≡◌, ◌<◌, suc, length, rules, add-one, arith}
use Rattle.cspf_trees.proofs.LegByLeg.{least_after_leg, least_after_none, no_route_without_leg}
use Rattle.cspf_trees.proofs.legs.go_on.Goals as goal

pub returns-then-eq-clause-step : goal.returns-then-eq-clause-step
returns-then-eq-clause-step c =
    let q = c.args.request.now in
    let walk = c.args.walk.now in
    let few : c.args.leg < suc (length q.hops) = omega (arith, c.requires.few) in
    let same : c.args.to ≡ walk.at = search rules in
    rw (add-one, ← same)
    (least_after_none c.args.table.now q c.args.leg walk.at c.args.to c.requires.sole few walk.links.items c.requires.least same)

pub returns-then-branch-clause-step : goal.returns-then-branch-clause-step
returns-then-branch-clause-step c =
    let q = c.args.request.now in
    let walk = c.args.walk.now in
    let few : c.args.leg < suc (length q.hops) = omega (arith, c.requires.few) in
    let longer = c.in_ok-append-in-Route.ensures.longer c.if-branch.true in
    let answer = rw c.in-Route.is at c.in_ok-route.ensures.answer in
    let joint = c.may_go_on.ensures.0 c.if-not-may_go_on.false in
    rw (longer.links, longer.at, add-one)
    (least_after_leg c.args.table.now q c.args.leg walk.at c.args.to c.requires.sole few walk.links.items c.route_without_hops.ensures answer.leg answer.asks c.requires.least
    joint c.in-Route.route answer.best.1)

pub returns-in-NoRoute-clause-step : goal.returns-in-NoRoute-clause-step
returns-in-NoRoute-clause-step c =
    let q = c.args.request.now in
    let walk = c.args.walk.now in
    let few : c.args.leg < suc (length q.hops) = omega (arith, c.requires.few) in
    let answer = rw c.in-NoRoute.is at c.in_ok-route.ensures.answer in
    no_route_without_leg c.args.table.now q c.args.leg walk.at c.args.to c.requires.sole few walk.links.items c.route_without_hops.ensures answer.leg answer.asks
    c.requires.least answer.best.1
