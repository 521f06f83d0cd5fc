-- Private: a lower bound of the cost from each state (a router in a leg) to the tail-end.
use Rattle.std.specs.Prelude.{◌≡◌, ℕ, ◌+◌, ◌*◌, ◌/◌, ◌%◌, ◌^◌, ◌<◌, ◌≤◌, min, Bool, true, false, Some, List, length, slice_get, slice_index, slice_index_or}
use Rattle.cspf_model.specs.declared.limits.TheConstants.{MOST_ROUTERS}
use Rattle.cspf_model.specs.declared.link.Link.{Link}
use Rattle.cspf_model.specs.declared.request.Request.{Request}
use Rattle.cspf_model.specs.Database.{Database}
use Rattle.cspf_model.specs.Admissible.{IsAdmitted}
use Rattle.cspf_db.specs.Index.{router_list, links_of}
use Rattle.cspf_search.specs.declared.limits.TheConstants.{NO_WAY}
use Rattle.cspf_search.specs.declared.ring.Ring.{Ring}
use Rattle.cspf_graph.specs.Lists.{IsIndexOf}
use Rattle.cspf_graph.specs.Roles.{IsStateIndex, MayBeLeft, MayEnter, MayTurn}
use Rattle.cspf_search.specs.Settled.{IsWithin}
use Rattle.cspf_search.specs.States.{LeadsOn}

-- The element at the index `i` of a list of bounds, or 0 if the list is shorter. The index is that
-- of a state (a router in a leg) or of a router, depending on the list.
abbrev pub bound_at : List ℕ → ℕ → ℕ
bound_at bounds i = slice_index_or bounds i 0

-- The list `bounds` has a lower bound of the cost from each state (a router in a leg) to the
-- tail-end. For each link that a walk may use in a leg, the bound at the link's start is at most
-- the bound at its end plus the link's metric. If the bound at the link's end isn't `NO_WAY`, the
-- bound at its start isn't `NO_WAY` either. Where a walk may step to the next leg, the router's
-- bound in this leg is at most its bound in the next leg. At the tail-end in the last leg the bound
-- is 0.
pub record AreBounds (d : Database) (q : Request) (bounds : List ℕ) : Type 0 where
  pub many : length bounds ≡ (length q.hops + 1) * MOST_ROUTERS
  pub small : (i : ℕ) → bound_at bounds i < 2 ^ 32
  pub links : (i j : ℕ) → IsStateIndex d q i → IsStateIndex d q j → i / MOST_ROUTERS ≡ j / MOST_ROUTERS → (l : Link) → LeadsOn d q l
      → MayEnter d q (j / MOST_ROUTERS + 1) l.to
      → l.from ≡ slice_index (router_list d) (i % MOST_ROUTERS) → l.to ≡ slice_index (router_list d) (j % MOST_ROUTERS)
      → IsWithin (bound_at bounds i) (bound_at bounds j) l.metric
  pub turns : (i : ℕ) → IsStateIndex d q i → i / MOST_ROUTERS < length q.hops
      → MayTurn d q (i / MOST_ROUTERS + 1) (slice_index (router_list d) (i % MOST_ROUTERS)) → bound_at bounds i ≤ bound_at bounds (i + MOST_ROUTERS)
  pub last : (i : ℕ) → IsStateIndex d q i → i / MOST_ROUTERS ≡ length q.hops
      → MayTurn d q (i / MOST_ROUTERS + 1) (slice_index (router_list d) (i % MOST_ROUTERS)) → bound_at bounds i ≡ 0

-- The bounds of the routers in a leg are consistent with each other and with `ahead`, the bounds in
-- the next leg. The bound of a router in this leg is the lesser of its entry in `near` and `edge`.
pub record IsLegBound (d : Database) (q : Request) (leg : ℕ) (near : List ℕ) (edge : ℕ) (ahead : List ℕ) : Type 0 where
  pub links : (u w : ℕ) (l : Link) → LeadsOn d q l → MayEnter d q (leg + 1) l.to → IsIndexOf d l.from u → IsIndexOf d l.to w
      → IsWithin (min (bound_at near u) edge) (min (bound_at near w) edge) l.metric
  pub targets : (p : ℕ) → p < length (router_list d)
      → MayTurn d q (leg + 1) (slice_index (router_list d) p) → min (bound_at near p) edge ≤ bound_at ahead p

-- At each router where a route may go on to the next leg, the router's bound in this leg is at most
-- its bound in the next leg.
abbrev pub AreReached : Database → Request → ℕ → Ring → List ℕ → Type 0
AreReached d q leg ring ahead =
    (p : ℕ) → p < length (router_list d) → MayTurn d q (leg + 1) (slice_index (router_list d) p)
    → bound_at ring.near.items p ≤ bound_at ahead p

-- The leg to a hop is a dead end: each router at which a route may go on to the next leg has the
-- bound `NO_WAY` in the next leg.
pub record IsDeadEnd (d : Database) (q : Request) (leg : ℕ) (ahead : List ℕ) : Type 0 where
  pub hop : leg < length q.hops
  pub targets : (p : ℕ) → p < length (router_list d) → MayTurn d q (leg + 1) (slice_index (router_list d) p)
      → NO_WAY ≤ bound_at ahead p

-- Whether the backward search has looked at all links that end at the router with the index `w`.
abbrev pub is_done : Ring → ℕ → Bool
is_done ring w = slice_index_or ring.done.items w false

-- For each link that a walk may use in the leg, and that ends at a router whose entry in `marks` is
-- `true`: the bound at the link's start is at most the bound at its end plus the link's metric.
abbrev pub AreLooked : Database → Request → ℕ → List ℕ → List Bool → Type 0
AreLooked d q leg near marks =
    (u w : ℕ) → slice_index_or marks w false ≡ true → (l : Link) → LeadsOn d q l → MayEnter d q (leg + 1) l.to → IsIndexOf d l.from u → IsIndexOf d l.to w
    → IsWithin (bound_at near u) (bound_at near w) l.metric

-- The bounds of the routers are consistent over each link that a walk may use in the leg, and that
-- ends at a router that is done. The bound at the link's start is at most the bound at its end plus
-- the link's metric. A router is done if the backward search has looked at all links that end at
-- this router.
abbrev pub IsRing : Database → Request → ℕ → Ring → Type 0
IsRing d q leg ring = AreLooked d q leg ring.near.items ring.done.items

-- No router's bound is greater in `new` than in `old`.
abbrev pub IsLower : Ring → Ring → Type 0
IsLower old new = (i : ℕ) → bound_at new.near.items i ≤ bound_at old.near.items i

-- No router's bound is greater in `new` than in `old`. If a router is done in `new`, it was done in
-- `old` with the same bound. A router is done if the backward search has looked at all links that
-- end at this router.
pub record Falls (old new : Ring) : Type 0 where
  pub lower : IsLower old new
  pub kept : (i : ℕ) → is_done new i ≡ true
      → (is_done old i ≡ true) × (bound_at new.near.items i ≡ bound_at old.near.items i)

-- The search has handled the link at the index `at`, which begins at the router `from`. If the
-- request admits the link and a walk may leave `from`, the bound of `from` is at most the link's
-- metric plus `base`, the bound of the router at the link's end.
abbrev pub IsPassed : Database → Request → ℕ → Ring → ℕ → ℕ → Type 0
IsPassed d q base ring from at =
    (l : Link) → slice_get (links_of d) at ≡ Some l → IsAdmitted q l → MayBeLeft d q (slice_index (router_list d) from)
    → IsWithin (bound_at ring.near.items from) base l.metric

-- The search has handled each link that a walk may use and that ends at the router `to`: the bound
-- at the link's start is at most the link's metric plus `base`, the bound of `to`.
abbrev pub ArePassed : Database → Request → ℕ → Ring → ℕ → Type 0
ArePassed d q base ring to =
    (u : ℕ) (l : Link) → LeadsOn d q l → IsIndexOf d l.from u → IsIndexOf d l.to to
    → IsWithin (bound_at ring.near.items u) base l.metric
