-- Private: the order in which walks are settled, and what holds of the settled walks.
use Rattle.std.specs.Prelude.{◌≡◌, ℕ, suc, ◌+◌, ◌<◌, ◌≤◌, Option, Some, None, List, [], false, length}
use Rattle.std.specs.Ordering.{nat_cmp, ordering_then, is_gt}
use Rattle.std.specs.declared.cmp.Ordering.{Ordering}
use Rattle.std.specs.Cmp.Lexicographic.{slice_cmp}
use Rattle.cspf_model.specs.declared.link.Link.{Link}
use Rattle.cspf_model.specs.declared.request.Request.{Request}
use Rattle.cspf_model.specs.Database.{Database}
use Rattle.cspf_model.specs.Walks.{cost_of, locals_of, walk_cmp}
use Rattle.cspf_search.specs.declared.limits.TheConstants.{NO_WAY}
use Rattle.cspf_search.specs.States.{State, LeadsOn, IsStep, Reaches, start_of}
use Rattle.cspf_graph.specs.Roles.{MayEnter, MayTurn}

-- For each state (a router in a leg), its settled walk, or none if the state isn't settled.
abbrev pub Labels : Type 0
Labels = State → Option (List Link)

abbrev pub IsNoLater : List Link → List Link → Type 0
IsNoLater v w = is_gt (walk_cmp v w) ≡ false

-- Compares two walks, each given with its leg: by cost, then by the number of links, then by the
-- leg.
abbrev pub rank_cmp : ℕ × List Link → ℕ × List Link → Ordering
rank_cmp a b =
    ordering_then (nat_cmp (cost_of a.1) (cost_of b.1))
    (ordering_then (nat_cmp (length a.1) (length b.1)) (nat_cmp a.0 b.0))

-- Compares two walks, each given with its state (a router in a leg): by the cost plus the state's
-- potential, then by the number of links, then by the leg. The potential is a lower bound of the
-- cost from the state to the tail-end.
abbrev pub potential_cmp : (State → ℕ) → State × List Link → State × List Link → Ordering
potential_cmp potential a b =
    ordering_then (nat_cmp (potential a.0 + cost_of a.1) (potential b.0 + cost_of b.1))
    (ordering_then (nat_cmp (length a.1) (length b.1)) (nat_cmp a.0.leg b.0.leg))

abbrev pub RanksNoLater : (State → ℕ) → State → List Link → State → List Link → Type 0
RanksNoLater potential s v t w = is_gt (potential_cmp potential (s, v) (t, w)) ≡ false

-- The potentials of two routers are consistent over a link between them. The router at the link's
-- start has `potential`, and the router at its end has `ahead`. `potential` is at most `ahead` plus
-- the link's metric, and if `ahead` is below `NO_WAY`, so is `potential`. A router's potential
-- stands for a lower bound of the cost from this router to the tail-end.
abbrev pub IsWithin : ℕ → ℕ → ℕ → Type 0
IsWithin potential ahead metric = (potential ≤ ahead + metric) × (ahead < NO_WAY → potential < NO_WAY)

-- The potentials of the states (routers in legs) are consistent over each step of a walk. For a
-- link that a walk may use in a leg, the potential at the link's start is at most the potential at
-- its end plus the link's metric. For a step to the next leg, the router's potential in this leg is
-- at most its potential in the next leg.
pub record IsConsistent (d : Database) (q : Request) (potential : State → ℕ) : Type 0 where
  pub links : (leg : ℕ) (l : Link) → 1 ≤ leg → leg ≤ length q.hops + 1 → LeadsOn d q l → MayEnter d q leg l.to
      → IsWithin (potential (record { leg = leg; router = l.from })) (potential (record { leg = leg; router = l.to })) l.metric
  pub turns : (leg router : ℕ) → 1 ≤ leg → leg ≤ length q.hops → MayTurn d q leg router
      → potential (record { leg = leg; router = router }) ≤ potential (record { leg = suc leg; router = router })

abbrev pub locals_cmp : List Link → List Link → Ordering
locals_cmp v w = slice_cmp nat_cmp (locals_of v) (locals_of w)

-- Compares two walks, each given with its leg, in the order in which a search settles walks: by
-- cost, then by the number of links, then by the leg, then by the local addresses of the links.
abbrev pub state_cmp : ℕ × List Link → ℕ × List Link → Ordering
state_cmp a b = ordering_then (rank_cmp a b) (locals_cmp a.1 b.1)

-- The head-end in the first leg is settled with the walk without links. Each settled walk reaches
-- its state (a router in a leg), and no other walk to the same state precedes it in the order of
-- walks.
pub record AreSettled (d : Database) (q : Request) (labels : Labels) : Type 0 where
  pub start : labels (start_of q) ≡ Some []
  pub reached : (s : State) (w : List Link) → labels s ≡ Some w → Reaches d q w s
  pub least : (s : State) (w x : List Link) → labels s ≡ Some w → Reaches d q x s → IsNoLater w x

-- The walk `w` continues a settled walk by one link or by the step to the next leg, and reaches the
-- state `t` (a router in a leg), which isn't settled yet.
pub record Crosses (d : Database) (q : Request) (labels : Labels) (w : List Link) (t : State) : Type 0 where
  pub state : State
  pub front : List Link
  pub settled : labels state ≡ Some front
  pub step : IsStep d q front state w t
  pub still_open : labels t ≡ None

-- The leg is closed: each router at which a route may go on from this leg to the next one is
-- settled in this leg. So every walk into a later leg continues a settled walk of this leg. Leg 0,
-- which doesn't exist, counts as closed.
abbrev pub IsClosed : Database → Request → Labels → ℕ → Type 0
IsClosed d q labels leg =
    1 ≤ leg → (router : ℕ) → MayTurn d q leg router → labels (record { leg = leg; router = router }) ≡ None → ⊥

-- The walk `w` to the state `t` (a router in a leg) is the next walk to settle. It is compared with
-- all walks that continue a settled walk by one step to a state that isn't settled. No such walk to
-- `t` precedes it in the order of walks. No such walk into a leg after the closed ones precedes it
-- by cost plus potential.
pub record IsFirstCrossing (d : Database) (q : Request) (labels : Labels) (w : List Link) (t : State) : Type 0 where
  pub crosses : Crosses d q labels w t
  pub first_here : (x : List Link) → Crosses d q labels x t → IsNoLater w x
  pub closed : ℕ
  pub is_closed : IsClosed d q labels closed
  pub behind : closed < t.leg
  pub potential : State → ℕ
  pub consistent : IsConsistent d q potential
  pub first : (x : List Link) (u : State) → Crosses d q labels x u → closed < u.leg
      → RanksNoLater potential t w u x

-- The search can't go on: each step from a settled walk into a leg after the closed ones leads to a
-- state (a router in a leg) that is settled already. A leg is closed if each router at which a
-- route may go on to the next leg is settled in it.
pub record IsStuck (d : Database) (q : Request) (labels : Labels) : Type 0 where
  pub closed : ℕ
  pub is_closed : IsClosed d q labels closed
  pub low : closed ≤ length q.hops
  pub none : (w : List Link) (t : State) → Crosses d q labels w t → closed < t.leg → ⊥
