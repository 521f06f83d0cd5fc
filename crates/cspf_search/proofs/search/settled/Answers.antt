use Rattle.std.proofs.Common.{◌≡◌, [], ◌*◌, false, replicate, sym, ap, subst, arith}
use Rattle.std.proofs.lemmas.List.{length_push}
use Rattle.cspf_model.specs.Database.{IsRouterOf}
use Rattle.cspf_db.specs.Index.{links_of}
use Rattle.cspf_search.specs.declared.arena.Node.{Node}
use Rattle.cspf_search.specs.Arena.{labels_of, root_of, state_of}
use Rattle.cspf_search.specs.ForwardStars.{IsForwardStar}
use Rattle.cspf_search.proofs.Grown.{root_nodes, root_settled, nodes_in_legs, nothing_crosses}
use Rattle.cspf_search.proofs.Lows.{lows_root, lows_push}
use Rattle.cspf_search.proofs.Settles.{no_route}
use Rattle.cspf_search.proofs.Marked.{no_stars, no_marks, star_index, stars_push, marks_push, after, new_router, new_leg}
use Rattle.cspf_search.proofs.search.settled.Goals as goal

pub star_of-root-requires-clause-known : goal.star_of-root-requires-clause-known
star_of-root-requires-clause-known c =
    let root : c.index.result.now ≡ root_of c.args.query.request.now = rw c.in_ok-nodes.ensures at c.index.ensures in
    subst (λ (n : Node). IsRouterOf c.args.query.table.now n.router) (sym root) c.requires.known

pub loop-node-init : goal.loop-node-init
loop-node-init c =
    let d = c.args.query.table.now in
    let q = c.args.query.request.now in
    let star = c.star_of-root.result in
    let root : c.index.result.now ≡ root_of c.args.query.request.now = rw c.in_ok-nodes.ensures at c.index.ensures in
    let is = subst (λ (n : Node). IsForwardStar c.args.query.table.now (state_of n) c.star_of-root.result) root c.star_of-root.ensures in
    let marks : c.in_ok-marks.marks.items ≡ replicate (c.args.query.legs * 1024) false = c.in_ok-marks.ensures.items_if_clones_equal (λ y e. e) in
    let lows : c.in_ok-lows.lows.items ≡ replicate 1 0 = c.in_ok-lows.ensures.items_if_clones_equal (λ y e. e) in
    rw (c.in_ok-nodes.ensures, c.in_ok-stars.ensures.items, marks, lows)
    (record {
      arena = root_nodes q;
      few = omega arith;
      settled = root_settled d q;
      stars = stars_push d [] [] (no_stars d) (root_of q) star is;
      lows = lows_root d q (root_of q);
      marks =
          marks_push d q c.requires.query.listed [] (root_of q) (λ i j e low high. absurd (omega arith)) (root_nodes q).apart (replicate (c.args.query.legs * 1024) false)
          (no_marks d q (c.args.query.legs * 1024) (ap (λ n. n * 1024) c.requires.query.count)) star is (record { low = omega arith; high = omega arith });
    })

pub next-requires : goal.next-requires
next-requires c =
    let before = c.loop-node.invariant in
    record {
      round = record {
        query = c.requires.query;
        arena = rw c.deref.ensures.value before.arena;
        legs = rw c.deref.ensures.value (nodes_in_legs c.args.query.table.now c.args.query.request.now c.loop-node.nodes.items before.arena.apart before.settled);
        stars = rw (c.deref.ensures.value, c.deref-in-loop-node.ensures.value) before.stars;
        marks = rw (c.deref.ensures.value, c.deref-in-loop-node-2.ensures.value) before.marks;
      };
      lows = rw c.deref.ensures.value before.lows;
    }

pub star_of-star-requires-clause-known : goal.star_of-star-requires-clause-known
star_of-star-requires-clause-known c =
    let first = rw c.deref.ensures.value at c.in-Some.ensures.some in
    let before = c.loop-node.invariant in
    new_router c.args.query.table.now c.args.query.request.now c.requires.query.links c.requires.known c.requires.query.few (omega arith) c.loop-node.nodes.items before.arena before.settled
    c.in-Some.node first

pub star_of-star-requires-clause-most : goal.star_of-star-requires-clause-most
star_of-star-requires-clause-most c =
    let first = rw c.deref.ensures.value at c.in-Some.ensures.some in
    let before = c.loop-node.invariant in
    let leg =
    new_leg c.args.query.table.now c.args.query.request.now c.requires.query.links c.requires.known c.requires.query.few (omega arith) c.loop-node.nodes.items before.arena before.settled
    c.in-Some.node first in
    omega (arith, leg.high)

pub index_mut-requires-in-Some : goal.index_mut-requires-in-Some
index_mut-requires-in-Some c =
    let first = rw c.deref.ensures.value at c.in-Some.ensures.some in
    let before = c.loop-node.invariant in
    let leg =
    new_leg c.args.query.table.now c.args.query.request.now c.requires.query.links c.requires.known c.requires.query.few (omega arith) c.loop-node.nodes.items before.arena before.settled
    c.in-Some.node first in
    let index = star_index c.args.query.table.now c.args.query.request.now c.in-Some.node c.star_of-star.result leg c.star_of-star.ensures in
    omega (arith, index.low, before.marks.many, c.loop-node.marks.ok.0)

pub loop-node-smaller : goal.loop-node-smaller
loop-node-smaller c =
    let first = rw c.deref.ensures.value at c.in-Some.ensures.some in
    let before = c.loop-node.invariant in
    let new =
    after c.args.query.table.now c.args.query.request.now c.requires.query.links c.requires.known c.requires.query.few (omega arith) c.loop-node.nodes.items before.arena before.settled
    c.in-Some.node first in
    rw c.in_ok-push.ensures.items (omega (arith, new.2, length_push c.loop-node.nodes.items c.in-Some.node))

pub loop-node-preserved : goal.loop-node-preserved
loop-node-preserved c =
    let d = c.args.query.table.now in
    let q = c.args.query.request.now in
    let nodes = c.loop-node.nodes.items in
    let node = c.in-Some.node in
    let star = c.star_of-star.result in
    let first = rw c.deref.ensures.value at c.in-Some.ensures.some in
    let before = c.loop-node.invariant in
    let new =
    after d q c.requires.query.links c.requires.known c.requires.query.few (omega arith) c.loop-node.nodes.items before.arena before.settled c.in-Some.node first in
    let leg =
    new_leg d q c.requires.query.links c.requires.known c.requires.query.few (omega arith) c.loop-node.nodes.items before.arena before.settled c.in-Some.node first in
    rw (c.in_ok-push.ensures.items, c.in_ok-extend_from_slice.ensures.items, c.in_ok-push-2.ensures.items)
    (record {
      arena = new.0;
      few = omega (arith, new.2, length_push c.loop-node.nodes.items c.in-Some.node);
      settled = new.1;
      stars = stars_push d nodes c.loop-node.stars.items before.stars node star c.star_of-star.ensures;
      lows = lows_push d q nodes node before.arena.apart new.0.apart _ (rw c.deref.ensures.value at c.next.ensures.lows);
      marks = marks_push d q c.requires.query.listed nodes node before.arena.apart new.0.apart c.loop-node.marks.items before.marks star c.star_of-star.ensures leg;
    })

pub returns : goal.returns
returns c =
    let before = c.loop-node.invariant in
    let none = rw c.deref.ensures.value at c.in_default.ensures.none in
    record {
      arena = before.arena;
      few = omega (arith, before.few, c.requires.query.count);
      settled = before.settled;
      whole = λ left.
          let stuck = nothing_crosses c.args.query.table.now c.args.query.request.now (links_of c.args.query.table.now) c.requires.query.links c.loop-node.nodes.items before.arena.apart (none left) in
          no_route c.args.query.table.now c.args.query.request.now (labels_of c.loop-node.nodes.items) before.settled stuck left;
    }
