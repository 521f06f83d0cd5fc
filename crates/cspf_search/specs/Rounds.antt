-- Private: the node (the record of a walk) that one round finds.
use Rattle.std.specs.Prelude.{◌≡◌, ℕ, ◌+◌, ◌<◌, ◌≤◌, ◌⊎◌, false, if◌then◌else◌, Option, Some, None, List, [], ◌∷◌, ◌++◌, Contains, length, slice_get}
use Rattle.std.specs.Ordering.{is_gt}
use Rattle.cspf_model.specs.declared.link.Link.{Link}
use Rattle.cspf_model.specs.declared.request.Request.{Request}
use Rattle.cspf_model.specs.Database.{Database}
use Rattle.cspf_model.specs.Admissible.{IsUsable, MayLeave}
use Rattle.cspf_search.specs.declared.arena.Node.{Node}
use Rattle.cspf_search.specs.States.{State}
use Rattle.cspf_graph.specs.Roles.{MayEnter, MayTurn}
use Rattle.cspf_search.specs.Settled.{state_cmp}
use Rattle.cspf_search.specs.Arena.{walk_at, walks, walk_of, state_of, index_of, IsNext}

-- The walk `w` to the state `t` continues the node at `at` by the link `l`. The request may use
-- this link, and the node's walk may leave its router. A route may enter the router at the link's
-- end in the node's leg, and no node has the state `t` yet. A state is a router in a leg, and a
-- node is the record of a walk.
pub record CrossesBy (d : Database) (q : Request) (nodes : List Node) (at : ℕ) (l : Link) (w : List Link) (t : State) : Type 0 where
  pub node : Node
  pub there : slice_get nodes at ≡ Some node
  pub runs : l.from ≡ node.router
  pub usable : IsUsable d q l
  pub leaves : MayLeave d l.from (length (walk_at (walks nodes) at))
  pub enters : MayEnter d q node.leg l.to
  pub walk : w ≡ walk_at (walks nodes) at ++ (l ∷ [])
  pub state : t ≡ record { leg = node.leg; router = l.to }
  pub still_open : index_of nodes t ≡ None

-- The walk `w` continues the node at `at` (the record of a walk) by the step to the next leg at the
-- same router. A route may take this step there. The walk reaches the state `t`, which is the same
-- router in the next leg, and no node has this state yet.
pub record Turns (d : Database) (q : Request) (nodes : List Node) (at : ℕ) (w : List Link) (t : State) : Type 0 where
  pub node : Node
  pub there : slice_get nodes at ≡ Some node
  pub within : node.leg ≤ length q.hops
  pub target : MayTurn d q node.leg node.router
  pub walk : w ≡ walk_at (walks nodes) at
  pub state : t ≡ record { leg = node.leg + 1; router = node.router }
  pub still_open : index_of nodes t ≡ None

-- The walk `w` to the state `t` continues the node at `at` by the step to the next leg, or by one
-- of the links `links`. No node has the state `t` yet. A state is a router in a leg, and a node is
-- the record of a walk.
abbrev pub CrossesFrom : Database → Request → List Node → List Link → ℕ → List Link → State → Type 0
CrossesFrom d q nodes links at w t =
    Turns d q nodes at w t ⊎ ((l : Link) × Contains links l × CrossesBy d q nodes at l w t)

-- The walk `w` to the state `t` continues one of the first `count` nodes, by the step to the next
-- leg or by one of the links `links`. No node has the state `t` yet. A state is a router in a leg,
-- and a node is the record of a walk.
abbrev pub CrossesBelow : Database → Request → List Node → List Link → ℕ → List Link → State → Type 0
CrossesBelow d q nodes links count w t =
    (at : ℕ) × (at < count) × CrossesFrom d q nodes links at w t

-- The walk of the node `n` (the record of a walk) satisfies `P`. No other walk that satisfies `P`
-- precedes it in the order in which walks are settled.
pub record IsFirstOf (nodes : List Node) (P : List Link → State → Type 0) (n : Node) : Type 0 where
  pub next : IsNext nodes n
  pub passes : P (walk_of nodes n) (state_of n)
  pub first : (w : List Link) (t : State) → P w t
      → is_gt (state_cmp (n.leg, walk_of nodes n) (t.leg, w)) ≡ false

-- The node (the record of a walk), if given, has the first walk of all walks that satisfy `P`, in
-- the order in which walks are settled. If no node is given, no walk satisfies `P`.
abbrev pub IsFirst : List Node → (List Link → State → Type 0) → Option Node → Type 0
IsFirst nodes P None = (w : List Link) (t : State) → ¬ P w t
IsFirst nodes P (Some n) = IsFirstOf nodes P n

-- Of two nodes (records of walks), the one whose walk is settled first: `a`, unless the walk of `b`
-- precedes the walk of `a`. If only one node is given, it is that node.
abbrev pub earlier_of : List Node → Option Node → Option Node → Option Node
earlier_of nodes None b = b
earlier_of nodes (Some a) None = Some a
earlier_of nodes (Some a) (Some b) =
    if is_gt (state_cmp (a.leg, walk_of nodes a) (b.leg, walk_of nodes b)) then Some b else Some a
