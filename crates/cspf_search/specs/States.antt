-- Private: the state of a walk, and the steps from one walk to the next. A state is a router in a
-- leg of the request.
use Rattle.std.specs.Prelude.{ℕ, suc, ◌+◌, ◌≤◌, List, [], ◌∷◌, ◌++◌, length}
use Rattle.cspf_model.specs.declared.link.Link.{Link}
use Rattle.cspf_model.specs.declared.request.Request.{Request}
use Rattle.cspf_model.specs.Database.{Database}
use Rattle.cspf_model.specs.Admissible.{IsAdmissible, MayLeave}
use Rattle.cspf_graph.specs.Roles.{MayBeLeft, MayEnter, MayTurn}

-- How far a walk has come: the leg of the request that the walk is in, and the router that it has
-- reached.
pub record State : Type 0 where
  pub leg : ℕ
  pub router : ℕ

-- The link is admissible for the request, and some walk of the request may leave the router at the
-- link's start.
pub record LeadsOn (d : Database) (q : Request) (l : Link) : Type 0 where
  pub admissible : IsAdmissible d q l
  pub left : MayBeLeft d q l.from

-- One step from a walk and its state (a router in a leg) to the next walk and state. The step
-- `by_link` appends an admissible link: the walk may leave its router, and a route may enter the
-- router at the link's end in this leg. The step `by_turn` goes on to the next leg of the request
-- at the same router, so the links stay the same.
pub data IsStep (d : Database) (q : Request) : List Link → State → List Link → State → Type 0 where
  by_link : {walk : List Link} {leg : ℕ} (l : Link) → IsAdmissible d q l → MayEnter d q leg l.to
      → MayLeave d l.from (length walk)
      → IsStep d q walk (record { leg = leg; router = l.from })
      (walk ++ (l ∷ [])) (record { leg = leg; router = l.to })
  by_turn : {walk : List Link} {leg router : ℕ} → leg ≤ length q.hops → MayTurn d q leg router
      → IsStep d q walk (record { leg = leg; router = router })
      walk (record { leg = suc leg; router = router })

-- The state (a router in a leg) in which each walk begins: the head-end in the first leg.
abbrev pub start_of : Request → State
start_of q = record { leg = 1; router = q.from }

-- The state (a router in a leg) in which a route ends: the tail-end in the leg after the last hop.
abbrev pub end_state : Request → State
end_state q = record { leg = length q.hops + 1; router = q.to }

-- The walk and its state (a router in a leg) can be reached from the head-end in the first leg.
-- Each step follows a link, or goes on to the next leg at the same router.
pub data Reaches (d : Database) (q : Request) : List Link → State → Type 0 where
  starts : Reaches d q [] (start_of q)
  steps : {v w : List Link} {s t : State} → Reaches d q v s → IsStep d q v s w t → Reaches d q w t
