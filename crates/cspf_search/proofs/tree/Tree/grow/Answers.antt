use Rattle.std.proofs.Common.{◌≡◌, length, ap, refl, arith}
use Rattle.cspf_graph.specs.Lists.{IsIndexOf}
use Rattle.cspf_search.specs.Bounds.{bound_at}
use Rattle.cspf_search.proofs.Trees.{shared_tree, tree_of_ring}
use Rattle.cspf_search.proofs.tree.Tree.grow.Goals as goal

pub returns-clause-known : goal.returns-clause-known
returns-clause-known c r share =
    let d = c.args.table.now in
    let ring = c.settle.new.ring in
    let many = ap length c.routers.ensures.all in
    let to : IsIndexOf c.args.table.now c.args.request.now.to c.in-Some.to = record { within = c.in-Some.ensures.bound; is = c.in-Some.ensures.some } in
    let begun = c.in_ok-ring.ensures in
    let low = c.in_ok-settle.ensures.lower c.in-Some.to in
    let zero : bound_at c.settle.new.ring.near.items c.in-Some.to ≡ 0 = omega (arith, low.0, begun.cost) in
    let none : bound_at c.settle.new.ring.links.items c.in-Some.to ≡ 0 = omega (arith, low.1 (omega (arith, zero, begun.cost)), begun.count) in
    let edge = rw (c.deref.ensures.value, c.deref-2.ensures.value) at c.least_open-edge.ensures in
    let packed = rw (c.deref-3.ensures.value, c.deref-4.ensures.value) at c.in_ok-ranks.ensures.each in
    let is =
    tree_of_ring d _ ring c.least_open-edge.result _ packed c.in_ok-settle.ensures.ring (λ w left. edge w (omega (arith, left, many))) c.listed.ensures.listed c.in-Some.to to zero none in
    shared_tree d _ r _ (record { to = share.to; exclude_any = share.exclude_any; include_any = share.include_any; include_all = share.include_all }) is
