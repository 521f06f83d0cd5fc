-- What a route may do at each router of a table in each leg of a request.
use Rattle.std.specs.Prelude.{◌≡◌, ℕ, ◌+◌, ◌*◌, ◌/◌, ◌%◌, ◌<◌, ◌⊎◌, ◌↔◌, IsTrue, List, All, Contains, length, slice_index_or}
use Rattle.std.specs.Prelude.{Vec}
use Rattle.std.specs.declared.alloc.Global.{Global}
use Rattle.cspf_model.specs.declared.limits.TheConstants.{MOST_ROUTERS}
use Rattle.cspf_model.specs.declared.request.Request.{Request}
use Rattle.cspf_model.specs.Database.{Database, HasTransit}
use Rattle.cspf_model.specs.Targets.{IsTarget, IsInside}
use Rattle.cspf_db.specs.Index.{router_list}
use Rattle.cspf_graph.specs.declared.roles.Role.{Role}
use Rattle.cspf_graph.specs.Lists.{router_at}

-- A walk of the request may leave the router: the router has transit, or is the head-end.
abbrev pub MayBeLeft : Database → Request → ℕ → Type 0
MayBeLeft d q router = HasTransit d router ⊎ (router ≡ q.from)

-- A way to the tail-end may lead over the router, because the router has transit, or it may end
-- there, because the router is the tail-end.
abbrev pub MayLeadOver : Database → Request → ℕ → Type 0
MayLeadOver d q router = HasTransit d router ⊎ (router ≡ q.to)

-- In this leg, a link may lead a route to the router: the router is inside the leg, and it has
-- transit or is the tail-end.
pub record MayEnter (d : Database) (q : Request) (leg router : ℕ) : Type 0 where
  pub inside : IsInside d q leg router
  pub through : HasTransit d router ⊎ (router ≡ q.to)

-- A route may visit the router: the router has transit, or is the head-end or the tail-end.
abbrev pub MayStand : Database → Request → ℕ → Type 0
MayStand d q router = HasTransit d router ⊎ ((router ≡ q.from) ⊎ (router ≡ q.to))

-- At the router, a route may go on to the next leg: the router is a target of this leg, and a route
-- may visit the router. A leg's targets are the routers where it may end.
pub record MayTurn (d : Database) (q : Request) (leg router : ℕ) : Type 0 where
  pub target : IsTarget d q leg router
  pub stands : MayStand d q router

-- `i` is the index of a state. A state is a pair of a leg and a router. Each leg has 1,024 indexes.
-- The index of a state is the leg's first index plus the router's index in the list of routers.
pub record IsStateIndex (d : Database) (q : Request) (i : ℕ) : Type 0 where
  pub low : i < (length q.hops + 1) * MOST_ROUTERS
  pub place : i % MOST_ROUTERS < length (router_list d)

-- The role is correct. `enter` says whether a link may lead a route to the router in this leg.
-- `target` says whether the route may go on to the next leg at this router.
pub record IsRole (d : Database) (q : Request) (leg router : ℕ) (role : Role) : Type 0 where
  pub enter : IsTrue role.enter ↔ MayEnter d q leg router
  pub target : IsTrue role.target ↔ MayTurn d q leg router

-- The list `roles` has the role of each router in each leg. A role says what a route may do at a
-- router in a leg.
pub record AreRoles (d : Database) (q : Request) (roles : List Role) : Type 0 where
  pub many : length roles ≡ (length q.hops + 1) * MOST_ROUTERS
  pub each : (i : ℕ) (e : Role) → IsStateIndex d q i
      → IsRole d q (i / MOST_ROUTERS + 1) (router_at d (i % MOST_ROUTERS)) (slice_index_or roles i e)

-- `places` has the indexes in the list of routers of exactly the targets of the leg (routers where
-- the leg may end).
pub record AreTargetsOf (d : Database) (q : Request) (leg : ℕ) (places : List ℕ) : Type 0 where
  pub within : All (λ p. p < length (router_list d)) places
  pub each : (p : ℕ) → p < length (router_list d)
      → Contains places p ↔ IsTarget d q leg (router_at d p)

-- For each hop, `targets` has the indexes of the targets of the leg to this hop (routers where this
-- leg may end).
pub record AreTargets (d : Database) (q : Request) (targets : List (Vec ℕ Global)) : Type 0 where
  pub many : length targets ≡ length q.hops
  pub each : (i : ℕ) (e : Vec ℕ Global) → i < length q.hops
      → AreTargetsOf d q (i + 1) (slice_index_or targets i e).items
