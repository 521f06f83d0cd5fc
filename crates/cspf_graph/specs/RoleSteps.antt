-- Private: how roles are computed, leg by leg. A role says what a route may do at a router in a
-- leg.
use Rattle.std.specs.Prelude.{◌≡◌, ℕ, Bool, true, false, ◌+◌, ◌/◌, ◌%◌, ◌<◌, ◌≤◌, ◌⊎◌, ◌↔◌, ◌&&◌, IsTrue, List, Contains, length, slice_index_or}
use Rattle.cspf_model.specs.declared.limits.TheConstants.{MOST_ROUTERS}
use Rattle.cspf_model.specs.declared.request.Request.{Request}
use Rattle.cspf_model.specs.Database.{Database}
use Rattle.cspf_graph.specs.declared.roles.Role.{Role}
use Rattle.cspf_graph.specs.declared.roles.RoleRows.{RoleRows}
use Rattle.cspf_graph.specs.Lists.{router_at}
use Rattle.cspf_graph.specs.Roles.{IsRole, IsStateIndex}

-- The role that `role_at` gives for an index past the end of a list of roles. A role says what a
-- route may do at a router in a leg.
abbrev pub nothing : Role
nothing = record { enter = false; target = false }

-- The roles of the leg after the last hop, and the roles of the first `legs` legs, are correct
-- (`IsRole`).
abbrev pub AreRolesUpTo : Database → Request → ℕ → List Role → Type 0
AreRolesUpTo d q legs roles =
    (i : ℕ) (e : Role) → IsStateIndex d q i → (i / MOST_ROUTERS ≡ length q.hops) ⊎ (i / MOST_ROUTERS < legs)
    → IsRole d q (i / MOST_ROUTERS + 1) (router_at d (i % MOST_ROUTERS)) (slice_index_or roles i e)

-- The role at the index `i` of a list of roles. A role says what a route may do at a router in a
-- leg.
abbrev pub role_at : List Role → ℕ → Role
role_at roles i = slice_index_or roles i nothing

-- `rows` says where a list of roles has the roles of a leg to a hop, and the roles of the leg after
-- the last hop. The former precede the latter, and both are within the list. A role says what a
-- route may do at a router in a leg.
pub record AreRoleRows (rows : RoleRows) (roles : List Role) : Type 0 where
  pub few : rows.count ≤ MOST_ROUTERS
  pub apart : rows.first + MOST_ROUTERS ≤ rows.last
  pub within : rows.last + rows.count ≤ length roles

-- `old` and `new` have the same roles, except for the roles of the leg that begin at the index
-- `rows.first`. A role says what a route may do at a router in a leg.
pub record StayElsewhere (rows : RoleRows) (old new : List Role) : Type 0 where
  pub many : length new ≡ length old
  pub below : (i : ℕ) → i < rows.first → role_at new i ≡ role_at old i
  pub behind : (i : ℕ) → rows.first + rows.count ≤ i → role_at new i ≡ role_at old i

-- The first step for a leg to a hop, before targets (routers where a leg may end) are considered.
-- In a loose leg, a link may lead a route to the same routers as in the leg after the last hop. In
-- a strict leg, `enter` is false for all routers until the next step. `target` is false for all
-- routers until the next step.
pub record IsSpread (rows : RoleRows) (loose : Bool) (old new : List Role) : Type 0 where
  pub here : (p : ℕ) → p < rows.count → role_at new (rows.first + p)
      ≡ record { enter = loose && (role_at old (rows.last + p)).enter; target = false }
  pub elsewhere : StayElsewhere rows old new

-- The step that considers targets (routers where a leg may end). `places` are targets of this leg
-- if `own` is true, and otherwise targets of the preceding leg. `enter` becomes true for each
-- router in `places` for which it is true in the leg after the last hop. If `own` is true, `target`
-- becomes true for these routers, and for the head-end `from` if it is in `places`.
pub record AreRolesMarked (rows : RoleRows) (places : List ℕ) (own : Bool) (from : ℕ) (old new : List Role) : Type 0 where
  pub enter : (p : ℕ) → p < rows.count → IsTrue (role_at new (rows.first + p)).enter
      ↔ (IsTrue (role_at old (rows.first + p)).enter
      ⊎ (Contains places p × IsTrue (role_at old (rows.last + p)).enter))
  pub target : (p : ℕ) → p < rows.count → IsTrue (role_at new (rows.first + p)).target
      ↔ (IsTrue (role_at old (rows.first + p)).target
      ⊎ (Contains places p × ((own ≡ true) × (IsTrue (role_at old (rows.last + p)).enter ⊎ (p ≡ from)))))
  pub elsewhere : StayElsewhere rows old new
