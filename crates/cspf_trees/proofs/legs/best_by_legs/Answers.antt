use Rattle.std.proofs.Common.{◌≡◌, suc, length, subst, arith}
use Rattle.cspf_trees.specs.LegsInTurn.{IsLeastSoFar}
use Rattle.cspf_trees.proofs.LegByLeg.{best_of_legs, has_links, least_at_first, links_are_linked}
use Rattle.cspf_trees.proofs.legs.best_by_legs.Goals as goal

pub loop-leg-init : goal.loop-leg-init
loop-leg-init c = record {
  trees = c.in_ok-targets.ensures.trees;
  most = c.in_ok-targets.ensures.most;
  least = rw (c.begin-walk.ensures.at, c.begin-walk.ensures.links) (least_at_first c.args.table.now c.args.request.now);
}

pub returns-in-NoRoute-clause-best : goal.returns-in-NoRoute-clause-best
returns-in-NoRoute-clause-best c = (
  record { from = c.has_router.ensures.0 c.if-not-has_router.false; to = c.has_router-else-not-has_router.ensures.0 c.if-not-has_router-2.false },
  rw c.in-NoRoute.is at c.in_ok-go_on.ensures.step,
)

pub route-requires-clause-some : goal.route-requires-clause-some
route-requires-clause-some c =
    let d = c.args.table.now in
    let q = c.args.request.now in
    let walk = c.loop-leg.walk in
    let targets = rw c.in-Some.is at c.in_ok-targets.ensures.targets in
    let all : c.loop-leg.leg ≡ suc (length q.hops) = omega (arith, c.loop-leg-test.false, c.loop-leg.auto.leg-end, c.len-leg-end.ensures, c.in-Some.targets.ok.0, targets.number) in
    has_links d q walk.at walk.links.items (subst (λ n. IsLeastSoFar d q n walk.at walk.links.items) all c.loop-leg.invariant.least)

pub route-requires-clause-linked : goal.route-requires-clause-linked
route-requires-clause-linked c = links_are_linked c.args.table.now c.args.request.now c.loop-leg.leg c.loop-leg.walk.at c.loop-leg.walk.links.items c.loop-leg.invariant.least

pub returns-clause-best : goal.returns-clause-best
returns-clause-best c =
    let d = c.args.table.now in
    let q = c.args.request.now in
    let walk = c.loop-leg.walk in
    let targets = rw c.in-Some.is at c.in_ok-targets.ensures.targets in
    let all : c.loop-leg.leg ≡ suc (length q.hops) = omega (arith, c.loop-leg-test.false, c.loop-leg.auto.leg-end, c.len-leg-end.ensures, c.in-Some.targets.ok.0, targets.number) in (
      record { from = c.has_router.ensures.0 c.if-not-has_router.false; to = c.has_router-else-not-has_router.ensures.0 c.if-not-has_router-2.false },
      rw c.in_ok-route.ensures (best_of_legs d q walk.at walk.links.items (subst (λ n. IsLeastSoFar d q n walk.at walk.links.items) all c.loop-leg.invariant.least)),
    )
