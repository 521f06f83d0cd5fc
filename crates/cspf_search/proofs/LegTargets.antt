-- The targets of the legs (the routers where a leg may end), as a query gives them.
use Rattle.std.proofs.Common.{◌≡◌, ℕ, ◌+◌, ◌/◌, ◌%◌, ◌<◌, IsTrue, List, Contains, take, Vec, Global, length, slice_index_or, arith}
use Rattle.std.proofs.lemmas.Grind.{common_steps}
use Rattle.std.proofs.lemmas.List.{take_more}
use Rattle.std.proofs.lemmas.List.Elements.{Contains-push_cases}
use Rattle.cspf_model.specs.declared.request.Request.{Request}
use Rattle.cspf_model.specs.Database.{Database}
use Rattle.cspf_graph.specs.declared.roles.Role.{Role}
use Rattle.cspf_graph.specs.Lists.{router_at}
use Rattle.cspf_graph.specs.Roles.{AreRoles, AreTargets, AreTargetsOf, IsStateIndex, MayTurn}
use Rattle.cspf_graph.specs.RoleSteps.{nothing}

-- The list that is read from `targets` at the index of a leg has the targets of this leg (the
-- routers where it may end).
pub read_targets : (d : Database) (q : Request) (targets : List (Vec ℕ Global)) (leg : ℕ) (read : Vec ℕ Global) (places : List ℕ) → AreTargets d q targets → leg < length q.hops
    → places ≡ (slice_index_or targets leg read).items → AreTargetsOf d q (leg + 1) places
read_targets d q targets leg read places are within is = rw is (are.each leg read within)

-- If a router's role in a leg has the flag `target`, a route may go on to the next leg at this
-- router.
pub role_turns : (d : Database) (q : Request) (roles : List Role) → AreRoles d q roles → (i : ℕ) → IsStateIndex d q i → IsTrue (slice_index_or roles i nothing).target
    → MayTurn d q (i / 1024 + 1) (router_at d (i % 1024))
role_turns d q roles are i ix on = (are.each i nothing ix).target.0 on

-- If the first `k` elements of a list of indexes have a property, and the next element does too,
-- the first `k + 1` elements have this property.
pub taken_more : (P : ℕ → Type 0) (places : List ℕ) (k place : ℕ) → k < length places → place ≡ slice_index_or places k 0 → ((p : ℕ) → Contains (take k places) p → P p) → P place
    → (p : ℕ) → Contains (take (k + 1) places) p → P p
taken_more P places k place within read before here p has = grind (arith, common_steps, Contains-push_cases, take_more)
