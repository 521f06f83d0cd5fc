-- Lemmas on which requests share a tree, and on how a tree gives the bounds of the last leg.
use Rattle.std.proofs.Common.{◌≡◌, ◌⊎◌, inl, inr, ℕ, suc, ◌+◌, ◌*◌, ◌/◌, ◌<◌, ◌≤◌, min, map, Bool, true, false, List, replicate, slice_index_or, length, set, refl, sym, ap, subst, ◌∙◌, arith, rules}
use Rattle.std.proofs.lemmas.Bool.{cases_lt}
use Rattle.std.proofs.lemmas.List.{get_or_past, get_or-map, get_or-replicate, get_or-set_other, length-replicate}
use Rattle.std.proofs.lemmas.List.Elements.{All-get_or}
use Rattle.cspf_model.specs.declared.link.Link.{Link}
use Rattle.cspf_model.specs.declared.request.Request.{Request}
use Rattle.cspf_model.specs.Database.{Database}
use Rattle.cspf_model.specs.Targets.{IsTarget}
use Rattle.cspf_db.specs.Index.{router_list}
use Rattle.cspf_graph.specs.Lists.{AreListed, IsIndexOf, router_at}
use Rattle.cspf_graph.specs.Roles.{MayLeadOver}
use Rattle.cspf_search.specs.declared.tree_ring.TreeRing.{TreeRing}
use Rattle.cspf_search.specs.declared.tree.Tree.{Tree}
use Rattle.cspf_search.specs.States.{LeadsOn}
use Rattle.cspf_search.specs.Bounds.{IsLegBound, bound_at}
use Rattle.cspf_search.specs.Trees.{IsInClass, IsTree, TreesAreShared, tree_bound, tree_links, tree_rank}
use Rattle.cspf_search.specs.Packing.{packed_rank}
use Rattle.cspf_walk.specs.Ways.{IsRankBound}
use Rattle.cspf_search.specs.TreeSteps.{AreLinksPassed, AreTreeBounds, IsRankWithin, IsTreeRing, TreeFalls, is_settled_there}
use Rattle.cspf_search.proofs.Cuts.{last_target}
use Rattle.cspf_search.proofs.LegBounds.{cut_at_edge}
use Rattle.cspf_graph.proofs.RouterIndexes.{one_place, same_or_not}

-- If a link meets `LeadsOn` for a request, the link is in the request's class. A link is in a
-- request's class if it has a reverse and passes the request's affinities, whatever bandwidth the
-- request asks for.
in_class : (d : Database) (q : Request) (l : Link) → LeadsOn d q l → IsInClass d q l
in_class d q l leads = record { link = leads.admissible.link; reverse = leads.admissible.usable.reverse; affinity = leads.admissible.usable.admitted.affinity }

-- The costs of a tree, as a list.
abbrev pub tree_costs : Tree → List ℕ
tree_costs tree = map (λ rank. rank / 1024) tree.ranks.items

-- No cost of a tree is above `NO_WAY`.
pub cost_told : (tree : Tree) (place : ℕ) → place < 1024 → min (bound_at (tree_costs tree) place) 4294967295 ≡ tree_bound tree place
cost_told tree place low =
    let within : place < length tree.ranks.items = omega (arith, low, tree.many) in
    let small = All-get_or (λ rank. rank < 4398046511104) tree.ranks.items place 0 within tree.small in
    omega (arith, get_or-map (λ rank. rank / 1024) tree.ranks.items place 0 0 within, small)

-- A tree gives lower bounds for the routers of the last leg. The bounds `ahead` of a next leg don't
-- matter, because no leg follows the last one.
pub leg_of_tree : (d : Database) (q : Request) (tree : Tree) → length (router_list d) ≤ 1024 → IsTree d q tree → (leg : ℕ) → leg ≡ length q.hops → (ahead : List ℕ)
    → IsLegBound d q leg (tree_costs tree) 4294967295 ahead
leg_of_tree d q tree few is leg last ahead = record {
  links = λ u w l leads enters from at.
      rw (cost_told tree u (omega (arith, from.within, few)), cost_told tree w (omega (arith, at.within, few))) (is.links u w l (in_class d q l leads) enters.through from at);
  targets = λ p within turns.
      let r = router_at d p in
      let after : leg + 1 ≡ suc (length q.hops) = omega (arith, last) in
      let there : r ≡ q.to = subst (λ (T : Type 0). T) (last_target d q r) (subst (λ k. IsTarget d q k r) after turns.target) in
      omega (arith, cost_told tree p (omega (arith, within, few)), is.end p (record { within = within; is = there }));
}

-- A tree gives lower bounds of the ranks of ways to the tail-end.
pub bounds_of_tree : (d : Database) (q : Request) (tree : Tree) → IsTree d q tree → IsRankBound d q (tree_rank tree)
bounds_of_tree d q tree is = record {
  links = λ u w step leads.
      let a = leads.is.admissible in
      let class : IsInClass d q leads.link = record { link = a.link; reverse = a.usable.reverse; affinity = a.usable.admitted.affinity } in
      let near = is.links u w leads.link class leads.is.over leads.from leads.to in
      elim (cases_lt (tree_bound tree u) (tree_bound tree w + leads.link.metric)) [
        | inl less ↦ omega (arith, less, leads.same)
        | inr no_less ↦
            let just : tree_bound tree u ≡ tree_bound tree w + leads.link.metric = omega (arith, near.0, no_less) in
            omega (arith, just, is.fewer u w leads.link class leads.is.over leads.from leads.to just, leads.same)
      ];
  end = λ place there. omega (arith, is.end place there, is.end_links place there);
}

pub shared_tree : TreesAreShared
shared_tree = search rules

-- In a new list of flags, the flag of each router is `false`.
pub none_at : (count w : ℕ) → slice_index_or (replicate count false) w false ≡ false
none_at count w =
    elim (cases_lt w count) [
      | inl lt ↦ get_or-replicate count w false false lt
      | inr past ↦ get_or_past (replicate count false) w false (omega (arith, past, length-replicate count false))
    ]

-- `IsTreeRing` still holds after some costs or numbers of links are lowered, if each router that is
-- done keeps both. A router is done if the search has looked at all links that end at this router.
pub fallen_tree : (d : Database) (q : Request) (old new : TreeRing) → TreeFalls old new → IsTreeRing d q old → IsTreeRing d q new
fallen_tree d q old new falls ring = search rules

pub same_tree : (d : Database) (q : Request) (old new : TreeRing) → new.near ≡ old.near → new.links ≡ old.links → new.done ≡ old.done → IsTreeRing d q old → IsTreeRing d q new
same_tree d q old new near links marks ring u w on l in_q over from end =
    rw (near, links) (ring u w (rw marks at on) l in_q over from end)

-- If no way may lead over a router, `IsTreeRing` still holds after this router is recorded as done,
-- although the search hasn't looked at the links that end there.
pub none_over : (d : Database) (q : Request) (to : ℕ) (ring : TreeRing) → IsTreeRing d q ring → ((router : ℕ) → IsIndexOf d router to → MayLeadOver d q router → ⊥)
    → AreTreeBounds d q ring.near.items ring.links.items (set ring.done.items to true)
none_over d q to ring is shut u w on l in_q over from end =
    elim (same_or_not w to) [
      | inl here ↦ absurd (shut l.to (subst (IsIndexOf d l.to) here end) over)
      | inr ne ↦ is u w (sym (get_or-set_other ring.done.items to w true false ne) ∙ on) l in_q over from end
    ]

-- After the search has looked at all links that end at one more router, `IsTreeRing` still holds
-- when this router is recorded as done.
pub one_more_done : (d : Database) (q : Request) (to base count : ℕ) (old new : TreeRing) → IsTreeRing d q old → TreeFalls old new → AreLinksPassed d q base count new to
    → bound_at new.near.items to ≡ base → count ≤ bound_at new.links.items to + 1 → AreTreeBounds d q new.near.items new.links.items (set new.done.items to true)
one_more_done d q to base count old new ring falls passed same more u w on l in_q over from end =
    elim (same_or_not w to) [
      | inl here ↦
          let low = passed u l in_q from (subst (IsIndexOf d l.to) here end) in
          let is : bound_at new.near.items w ≡ bound_at new.near.items to = ap (bound_at new.near.items) here in
          let links : bound_at new.links.items w ≡ bound_at new.links.items to = ap (bound_at new.links.items) here in (
            (omega (arith, low.0.0, is, same), λ way. low.0.1 (omega (arith, way, is, same))),
            λ just. omega (arith, low.1 (omega (arith, just, is, same)), more, links),
          )
      | inr ne ↦
          fallen_tree d q old new falls ring u w (sym (get_or-set_other new.done.items to w true false ne) ∙ on) l in_q over from end
    ]

-- The rank by which a tree has a cost and a number of links is the rank of both, if the cost is below
-- the edge, and of at most `MOST_COUNTED_LINKS` links. Otherwise it is the rank of the edge. The edge
-- is the least cost of the routers that the search hasn't settled.
rank_told : (near links edge : ℕ) → ((near < edge) × (packed_rank near links edge ≡ near * 1024 + min links 1023)) ⊎ ((edge ≤ near) × (packed_rank near links edge ≡ edge * 1024))
rank_told near links edge =
    elim (cases_lt near edge) [
      | inl less ↦ inl (less, search (rules, less))
      | inr no_less ↦ inr (no_less, search (rules, no_less))
    ]

done_or_not : (done : Bool) → (done ≡ true) ⊎ (done ≡ false)
done_or_not true = inl refl
done_or_not false = inr refl

-- The lists of costs and of numbers of links that a search has found, and the tree that has them.
module _ (near links : List ℕ) (edge : ℕ) (tree : Tree) (packed : (place : ℕ) → place < 1024 → bound_at tree.ranks.items place ≡ packed_rank (bound_at near place) (bound_at links place) edge) where
  -- The tree's cost of a router is the lesser of the router's cost and the edge.
  bound_told : (place : ℕ) → place < 1024 → min (bound_at near place) edge ≡ tree_bound tree place
  bound_told place low =
      elim (rank_told (bound_at near place) (bound_at links place) edge) [
        | inl h ↦ omega (arith, h.0, h.1, packed place low)
        | inr h ↦ omega (arith, h.0, h.1, packed place low)
      ]

  -- The tree's number of links stays consistent over a link when costs above the edge are lowered to
  -- the edge. If the bound at the link's start is exactly the bound at its end plus its metric, the
  -- number of links at its start is at most one more than at its end. The router at the link's end
  -- is either settled, and `IsRankWithin` holds over the link, or it costs at least the edge.
  links_within : (marks : List Bool) (u w metric : ℕ) → u < 1024 → w < 1024
      → (slice_index_or marks w false ≡ true → IsRankWithin (bound_at near u) (bound_at links u) (bound_at near w) (bound_at links w + 1) metric)
      → (slice_index_or marks w false ≡ false → edge ≤ bound_at near w)
      → tree_bound tree u ≡ tree_bound tree w + metric → tree_links tree u ≤ tree_links tree w + 1
  links_within marks u w metric from to within least just =
      elim (rank_told (bound_at near u) (bound_at links u) edge) [
        | inr start ↦ omega (arith, start.1, packed u from)
        | inl start ↦ elim (rank_told (bound_at near w) (bound_at links w) edge) [
          | inr end ↦ omega (arith, start.0, start.1, end.1, packed u from, packed w to, just)
          | inl end ↦ elim (done_or_not (slice_index_or marks w false)) [
            | inl done ↦
                let is : bound_at near u ≡ bound_at near w + metric = omega (arith, start.1, end.1, packed u from, packed w to, just) in
                omega (arith, start.1, end.1, packed u from, packed w to, (within done).1 is)
            | inr left ↦ omega (arith, least left, end.0)
          ]
        ]
      ]

-- The costs and the numbers of links that a backward search has found are, together with an edge, a
-- tree in the sense of `IsTree`. The tail-end must have the cost 0 and no links, and the edge must
-- be at most the cost of each router that the search hasn't settled.
pub tree_of_ring : (d : Database) (q : Request) (ring : TreeRing) (edge : ℕ) (tree : Tree) → ((place : ℕ) → place < 1024 → bound_at tree.ranks.items place ≡ packed_rank (bound_at ring.near.items place) (bound_at ring.links.items place) edge) → IsTreeRing d q ring
    → ((w : ℕ) → w < length (router_list d) → is_settled_there ring w ≡ false → edge ≤ bound_at ring.near.items w)
    → AreListed d → (to : ℕ) → IsIndexOf d q.to to → bound_at ring.near.items to ≡ 0 → bound_at ring.links.items to ≡ 0 → IsTree d q tree
tree_of_ring d q ring edge tree packed is least listed to end zero none = record {
  links = λ u w l in_q over from at.
      rw (← bound_told ring.near.items ring.links.items edge tree packed u (omega (arith, from.within, listed.few)), ← bound_told ring.near.items ring.links.items edge tree packed w (omega (arith, at.within, listed.few)))
      (cut_at_edge ring.near.items ring.done.items edge u w l.metric (λ done. (is u w done l in_q over from at).0) (least w at.within));
  end = λ place there.
      let here : place ≡ to = one_place d listed q.to place to there end in
      omega (arith, bound_told ring.near.items ring.links.items edge tree packed place (omega (arith, there.within, listed.few)), ap (bound_at ring.near.items) here, zero);
  fewer = λ u w l in_q over from at.
      links_within ring.near.items ring.links.items edge tree packed ring.done.items u w l.metric (omega (arith, from.within, listed.few)) (omega (arith, at.within, listed.few)) (λ done. is u w done l in_q over from at) (λ left. least w at.within left);
  end_links = λ place there.
      let here : place ≡ to = one_place d listed q.to place to there end in
      let low : place < 1024 = omega (arith, there.within, listed.few) in
      elim (rank_told (bound_at ring.near.items place) (bound_at ring.links.items place) edge) [
        | inl h ↦ omega (arith, h.1, packed place low, ap (bound_at ring.links.items) here, none)
        | inr h ↦ omega (arith, h.1, packed place low)
      ];
}
