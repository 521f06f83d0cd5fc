use Rattle.std.proofs.Common.{◌≡◌, ◌+◌, ◌*◌, ◌/◌, ◌%◌, ◌<◌, ◌≤◌, IsTrue, false, ℕ, List, length, slice_index_or, sym, ◌∙◌, arith}
use Rattle.std.proofs.lemmas.List.{get_or_read}
use Rattle.cspf_model.specs.declared.link.Link.{Link}
use Rattle.cspf_model.specs.declared.request.Request.{Request}
use Rattle.cspf_model.specs.Database.{Database}
use Rattle.cspf_graph.specs.declared.roles.Role.{Role}
use Rattle.cspf_graph.specs.Roles.{MayEnter, AreRoles, IsStateIndex}
use Rattle.cspf_graph.specs.Lists.{AreListed, IsIndexOf}
use Rattle.cspf_graph.specs.RoleSteps.{nothing}
use Rattle.cspf_search.specs.Bounds.{bound_at}
use Rattle.cspf_search.proofs.LegBounds.{fallen_ring, one_router_more, one_shut}
use Rattle.cspf_search.proofs.bounds.take.Goals as goal

pub returns-then-index-base-clause-ring : goal.returns-then-index-base-clause-ring
returns-then-index-base-clause-ring c =
    let said = c.in_ok-walk.ensures in
    let read = get_or_read c.walk.new.ring.near.items c.args.to c.index.result.now (omega (arith, c.requires.within, c.walk.new.ring.bounds)) c.index.ensures 0 in
    let same : bound_at c.walk.new.ring.near.items c.args.to ≡ c.index-base.result.now = sym read ∙ c.if-index-base.true in
    one_router_more c.args.query.table.now c.args.query.request.now c.args.leg_index c.args.to _ c.args.ring.now c.walk.new.ring c.requires.ring said.falls said.passed same

pub returns-else-index-base-clause-ring : goal.returns-else-index-base-clause-ring
returns-else-index-base-clause-ring c =
    fallen_ring c.args.query.table.now c.args.query.request.now c.args.leg_index c.args.ring.now c.walk.new.ring c.in_ok-walk.ensures.falls c.requires.ring

-- If a route may not enter a router in the leg, by the router's role, no link may lead a route
-- there.
shut : (d : Database) (q : Request) (roles : List Role) (leg to : ℕ) → AreListed d → AreRoles d q roles → leg ≤ length q.hops → (e : Role) → (slice_index_or roles (leg * 1024 + to) e).enter ≡ false
    → (l : Link) → MayEnter d q (leg + 1) l.to → IsIndexOf d l.to to → ⊥
shut d q roles leg to listed are within e role l enters end =
    let few : to < 1024 = omega (arith, end.within, listed.few) in
    let at_leg : (leg * 1024 + to) / 1024 ≡ leg = omega (arith, few) in
    let at_place : (leg * 1024 + to) % 1024 ≡ to = omega (arith, few) in
    let index : IsStateIndex d q (leg * 1024 + to) = record { low = omega (arith, few, within); place = rw at_place end.within } in
    let told : IsTrue (slice_index_or roles (leg * 1024 + to) e).enter = (are.each (leg * 1024 + to) e index).enter.1 (rw (at_leg, at_place, end.is) enters) in
    cc

pub returns-then-not-query-leg_index-clause-ring : goal.returns-then-not-query-leg_index-clause-ring
returns-then-not-query-leg_index-clause-ring c =
    one_shut c.args.query.table.now c.args.query.request.now c.args.leg_index c.args.to c.args.ring.now c.requires.ring
    (shut c.args.query.table.now c.args.query.request.now c.args.query.roles.now c.args.leg_index c.args.to c.requires.query.listed c.requires.query.roles c.requires.leg nothing c.if-not-query-leg_index.true)
