-- A search has at most 1,024 nodes in each leg, because no two nodes have the same state, and the
-- database has at most 1,024 routers. A state is a router in a leg, and a node is the record of a
-- walk.
use Rattle.std.proofs.Common.{◌≡◌, ℕ, zero, suc, ◌*◌, ◌<◌, ◌≤◌, Bool, true, false, not, nat_eq, List, [], ◌∷◌, filter, length, map, slice_index_or, refl, arith, rules}
use Rattle.std.specs.List.{All, AllByRecursion, AllPairs, IsDistinct}
use Rattle.std.proofs.lemmas.Bool.{eqb-false, not-true}
use Rattle.std.proofs.lemmas.List.{get_or-map, length-map}
use Rattle.std.proofs.lemmas.List.Elements.{All-filter, All-map, filter_passes, recursion_from_All}
use Rattle.std.proofs.lemmas.List.Filters.{length-filter_both}
use Rattle.std.proofs.lemmas.List.Kept.{AllPairs-filter}
use Rattle.std.proofs.lemmas.Map.Keys.{IsDistinct-from_apart}
use Rattle.cspf_model.specs.Database.{Database, IsRouterOf}
use Rattle.cspf_search.specs.declared.arena.Node.{Node}
use Rattle.cspf_search.specs.Arena.{state_of, same_state}
use Rattle.cspf_search.specs.Frontier.{nowhere}

-- The database has at most 1,024 routers.
abbrev pub HasFewRouters : Database → Type 0
HasFewRouters d = (routers : List ℕ) → IsDistinct nat_eq routers → AllByRecursion (IsRouterOf d) routers → length routers ≤ 1024

-- The two nodes have different states. A state is a router in a leg, and a node is the record of a
-- walk.
abbrev pub AreTold : Node → Node → Type 0
AreTold m n = same_state (state_of m) (state_of n) ≡ false

-- No two nodes have the same state. A state is a router in a leg, and a node is the record of a
-- walk.
abbrev pub AreApart : List Node → Type 0
AreApart nodes = AllPairs AreTold nodes

-- The node (the record of a walk) is at a router of the database, in one of the first `legs` legs.
pub record IsWithin (d : Database) (legs : ℕ) (n : Node) : Type 0 where
  pub router : IsRouterOf d n.router
  pub low : 1 ≤ n.leg
  pub high : n.leg ≤ legs

-- A leg has at most one node (the record of a walk) for each router.
module _ (d : Database) (few : HasFewRouters d) (leg : ℕ) (nodes : List Node) (apart : AreApart nodes) (routers : All (λ n. IsRouterOf d n.router) nodes)
    (here : All (λ n. nat_eq n.leg leg ≡ true) nodes) where
  routers_apart : (i j : ℕ) (e : Node) → i < j → j < length nodes → nat_eq (slice_index_or nodes i e).router (slice_index_or nodes j e).router ≡ false
  routers_apart i j e low high = search rules

  routers_distinct : IsDistinct nat_eq (map (λ (n : Node). n.router) nodes)
  routers_distinct = IsDistinct-from_apart nat_eq (map (λ (n : Node). n.router) nodes) (λ i j e low high.
      let near : i < length nodes = omega (arith, length-map nodes (λ (n : Node). n.router)) in
      let far : j < length nodes = omega (arith, length-map nodes (λ (n : Node). n.router)) in
      rw (get_or-map (λ (n : Node). n.router) nodes i nowhere e near, get_or-map (λ (n : Node). n.router) nodes j nowhere e far)
      (routers_apart i j nowhere low far))

  pub leg_few : length nodes ≤ 1024
  leg_few =
      let all = All-map (IsRouterOf d) (λ (n : Node). n.router) nodes routers in
      omega (arith, few (map (λ (n : Node). n.router) nodes) routers_distinct (recursion_from_All (IsRouterOf d) _ all), length-map nodes (λ (n : Node). n.router))

-- Nodes with different states, at routers of the database in the first `legs` legs, number at most
-- 1,024 for each leg. A state is a router in a leg, and a node is the record of a walk.
pub nodes_few : (d : Database) → HasFewRouters d → (legs : ℕ) (nodes : List Node) → AreApart nodes → All (IsWithin d legs) nodes → length nodes ≤ legs * 1024
nodes_few d few zero [] apart within = omega arith
nodes_few d few zero (n ∷ ns) apart within = absurd (let first = within 0 n (omega arith) in omega (arith, first.low, first.high))
nodes_few d few (suc k) nodes apart within =
    let is_last : Node → Bool = λ n. nat_eq n.leg (suc k) in
    let is_before : Node → Bool = λ n. not (nat_eq n.leg (suc k)) in
    let last : length (filter is_last nodes) ≤ 1024 =
    leg_few d few (suc k) (filter is_last nodes) (AllPairs-filter AreTold is_last nodes apart)
    (All-filter is_last (λ n. IsRouterOf d n.router) nodes (λ i e h. (within i e h).router)) (filter_passes is_last nodes) in
    let before : length (filter is_before nodes) ≤ k * 1024 =
    nodes_few d few k (filter is_before nodes) (AllPairs-filter AreTold is_before nodes apart)
    (λ i e h.
    let old = All-filter is_before (IsWithin d (suc k)) nodes within i e h in
    let other = eqb-false _ _ (not-true _ (filter_passes is_before nodes i e h)) in
    record { router = old.router; low = old.low; high = omega (arith, old.high, other) }) in
    omega (arith, last, before, length-filter_both is_last is_before (λ n. refl) nodes)
