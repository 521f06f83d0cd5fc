-- The best route is the walk of the node (the record of a walk) with the end state, the tail-end in
-- the last leg.
use Rattle.std.proofs.Common.{◌≡◌, ℕ, ◌+◌, ◌*◌, ◌<◌, ◌≤◌, Option, Some, None, option_map, List, [], ◌∷◌, length, slice_index_or, sym, ap, ◌∙◌, arith, rules}
use Rattle.std.proofs.lemmas.List.Quantifiers.{position-Some}
use Rattle.cspf_model.specs.declared.link.Link.{Link}
use Rattle.cspf_model.specs.declared.request.Request.{Request}
use Rattle.cspf_model.specs.Database.{Database}
use Rattle.cspf_model.specs.Walks.{AreJoined}
use Rattle.cspf_model.specs.Routes.{IsRoute}
use Rattle.cspf_model.specs.Best.{IsBestRoute}
use Rattle.cspf_model.specs.RouteLinks.{AreLinked}
use Rattle.cspf_search.specs.declared.arena.Node.{Node}
use Rattle.cspf_search.specs.States.{State, end_state}
use Rattle.cspf_search.specs.Settled.{AreSettled}
use Rattle.cspf_search.specs.Arena.{walk_at, walks, state_of, same_state, index_of, labels_of, AreNodes}
use Rattle.cspf_search.proofs.Cuts.{reached_walk, route_reaches}
use Rattle.cspf_search.proofs.Settles.{settled_best}
use Rattle.cspf_search.specs.Frontier.{nowhere}
use Rattle.cspf_search.proofs.Labelled.{same_state-true}

-- If `legs` is the number of the request's legs, the node for the tail-end in leg `legs` is the
-- node with the end state. A node is the record of a walk.
end_index : (q : Request) (nodes : List Node) (legs : ℕ) (o : Option ℕ) → legs ≡ length q.hops + 1 → o ≡ index_of nodes (record { leg = legs; router = q.to })
    → index_of nodes (end_state q) ≡ o
end_index q nodes legs o count is = ap (λ k. index_of nodes (record { leg = k; router = q.to })) (sym count) ∙ sym is

-- If a node (the record of a walk) has reached the tail-end in the last leg, the node's walk is the
-- best route.
pub best_at : (d : Database) (q : Request) (nodes : List Node) → AreSettled d q (labels_of nodes) → (legs : ℕ) → legs ≡ length q.hops + 1 → (o : Option ℕ) (at : ℕ)
    → o ≡ index_of nodes (record { leg = legs; router = q.to }) → o ≡ Some at → IsBestRoute d q (walk_at (walks nodes) at)
best_at d q nodes settled legs count o at is found =
    settled_best d q (labels_of nodes) settled (walk_at (walks nodes) at) (ap (option_map (λ i. walk_at (walks nodes) i)) (end_index q nodes legs o count is ∙ found))

-- If no node (the record of a walk) has reached the tail-end in the last leg, the tail-end isn't
-- settled in this leg.
pub no_label : (q : Request) (nodes : List Node) (legs : ℕ) → legs ≡ length q.hops + 1 → (o : Option ℕ) → o ≡ index_of nodes (record { leg = legs; router = q.to }) → o ≡ None
    → labels_of nodes (end_state q) ≡ None
no_label q nodes legs count o is none = ap (option_map (λ i. walk_at (walks nodes) i)) (end_index q nodes legs o count is ∙ none)

-- A route has at least one link, because the head-end and the tail-end of a request differ.
pub route_some : (d : Database) (q : Request) (w : List Link) → IsRoute d q w → 0 < length w
route_some d q [] route = absurd (q.two_ends (reached_walk d q [] (end_state q) (route_reaches d q [] route)).1)
route_some d q (l ∷ w) route = omega arith

linked : (a : ℕ) (w : List Link) → AreJoined a w → AreLinked w
linked a w joined = search rules

pub route_linked : (d : Database) (q : Request) (w : List Link) → IsRoute d q w → AreLinked w
route_linked d q w route = linked q.from w route.is_walk.joined

-- The walk of a node (the record of a walk) that has reached the tail-end in the last leg has at
-- most 8,184 links: 1,023 for each of at most eight legs.
pub walk_most : (q : Request) (nodes : List Node) → AreNodes nodes → (legs : ℕ) → legs ≡ length q.hops + 1 → legs ≤ 8 → length nodes ≤ legs * 1024
    → (o : Option ℕ) (at : ℕ) → o ≡ index_of nodes (record { leg = legs; router = q.to }) → o ≡ Some at → length (walk_at (walks nodes) at) ≤ 8184
walk_most q nodes are legs count most few o at is found =
    let here = position-Some (λ n. same_state (state_of n) (record { leg = legs; router = q.to })) nodes at nowhere (sym is ∙ found) in
    let leg = ap (λ (s : State). s.leg) (same_state-true (state_of (slice_index_or nodes at nowhere)) (record { leg = legs; router = q.to }) here.1) in
    let ranked = are.ranked at nowhere here.0 in
    omega (arith, here.0, leg, ranked.few)
