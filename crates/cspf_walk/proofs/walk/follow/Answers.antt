use Rattle.std.proofs.Common.{◌≡◌, List, [], ◌∷◌, ◌++◌, length, ap, subst, ◌∙◌, arith}
use Rattle.std.proofs.lemmas.List.{length_push}
use Rattle.cspf_model.specs.declared.link.Link.{Link}
use Rattle.cspf_walk.specs.TightWalks.{IsTightWalk}
use Rattle.cspf_graph.proofs.LinkRows.{no_elements}
use Rattle.cspf_walk.proofs.TightWalks.{known_at, tight_best, tight_more, tight_none}
use Rattle.cspf_walk.proofs.walk.follow.Goals as goal

pub loop-taken-init : goal.loop-taken-init
loop-taken-init g c =
    let d = c.args.query.table.now in
    let q = c.args.query.request.now in
    let none : c.in_ok-links.links.items ≡ [] = c.in_ok-links.ensures.items in
    record {
      walk = rw none (tight_none d q (g.B.LowerBounds.bound_of c.args.bounds.now) c.requires.query.listed c.requires.bounds c.route_without_hops.ensures (no_elements q.hops c.requires.query.hops) c.args.query.from c.requires.query.from);
      many = ap (λ (w : List Link). length w) none;
    }

pub loop-taken-preserved : goal.loop-taken-preserved
loop-taken-preserved g c =
    let d = c.args.query.table.now in
    let q = c.args.query.request.now in
    let more : c.push.new.self.items ≡ c.loop-taken.links.items ++ (c.in-Some.edge.link.now ∷ []) = c.in_ok-push.ensures.items in
    record {
      walk = rw more
          (tight_more d q (g.B.LowerBounds.bound_of c.args.bounds.now) c.requires.query.listed c.requires.bounds c.route_without_hops.ensures (no_elements q.hops c.requires.query.hops) c.args.query.from c.requires.query.from
          c.requires.query.links c.links-rows.ensures.keyed c.args.query.to c.requires.query.to
          c.loop-taken.links.items c.loop-taken.place c.loop-taken.invariant.walk c.if-place-query.false c.in-Some.edge c.in-Some.ensures);
      many = omega (arith, ap (λ (w : List Link). length w) more, length_push c.loop-taken.links.items c.in-Some.edge.link.now, c.loop-taken.invariant.many);
    }

pub tight_from-requires-clause-within : goal.tight_from-requires-clause-within
tight_from-requires-clause-within g c = c.loop-taken.invariant.walk.within

pub returns-then-place-query : goal.returns-then-place-query
returns-then-place-query g c =
    let d = c.args.query.table.now in
    let q = c.args.query.request.now in
    let there =
    subst (λ p. IsTightWalk c.args.query.table.now c.args.query.request.now (g.B.LowerBounds.bound_of c.args.bounds.now) c.args.query.from c.loop-taken.links.items p) c.if-place-query.true c.loop-taken.invariant.walk in
    let same : c.in_ok-kept.kept.items ≡ c.loop-taken.links.items = c.in_ok-kept.ensures.items ∙ c.as_slice.ensures.value in
    rw (c.new.ensures, same)
    (tight_best d q (g.B.LowerBounds.bound_of c.args.bounds.now) c.requires.query.listed c.requires.bounds c.route_without_hops.ensures (no_elements q.hops c.requires.query.hops) c.args.query.from c.requires.query.from
    c.requires.query.few (known_at d c.requires.query.listed q.from c.args.query.from c.requires.query.from) c.args.query.to c.requires.query.to c.loop-taken.links.items there)
