-- Private: the labels of states in the search with a heap, and the keys in the heap. A state is a
-- router in a leg, and a label holds the best walk found so far to a state.
use Rattle.std.specs.Prelude.{◌≡◌, ℕ, true, false, set, ◌+◌, ◌-◌, ◌*◌, ◌/◌, ◌%◌, ◌^◌, ◌<◌, ◌≤◌, ◌⊎◌, IsTrue, Option, Some, None, List, ◌∷◌, All, Contains, length, take, slice_get, slice_index, slice_index_or}
use Rattle.std.specs.Ordering.{nat_cmp, ordering_then, is_gt}
use Rattle.std.specs.declared.cmp.Ordering.{Ordering}
use Rattle.std.specs.declared.cmp.Reverse.{Reverse}
use Rattle.std.specs.BinaryHeap.{IsHeap}
use Rattle.std.specs.List.Sorted.{IsPermutation}
use Rattle.cspf_model.specs.declared.limits.TheConstants.{MOST_ROUTERS}
use Rattle.cspf_search.specs.declared.limits.TheConstants.{COST_WEIGHT}
use Rattle.cspf_model.specs.declared.link.Link.{Link}
use Rattle.cspf_model.specs.declared.request.Request.{Request}
use Rattle.cspf_model.specs.Database.{Database}
use Rattle.cspf_model.specs.Admissible.{MayLeave}
use Rattle.cspf_db.specs.Index.{router_list, links_of, links_from_index}
use Rattle.cspf_search.specs.declared.arena.Node.{Node}
use Rattle.cspf_search.specs.declared.goal.Goal.{Goal}
use Rattle.cspf_search.specs.declared.labels.Label.{Label}
use Rattle.cspf_graph.specs.declared.roles.Role.{Role}
use Rattle.cspf_search.specs.States.{State}
use Rattle.cspf_graph.specs.Roles.{IsStateIndex}
use Rattle.cspf_graph.specs.RoleSteps.{nothing}
use Rattle.cspf_search.specs.Settled.{Labels, IsNoLater, IsClosed, locals_cmp}
use Rattle.cspf_search.specs.Arena.{walk_at, walks, walk_of, walk_rank, state_of, index_of, IsNext}
use Rattle.cspf_search.specs.Rounds.{CrossesFrom, CrossesBelow}

-- The state (a router in a leg) with the index `i`. Each leg has 1,024 indexes, one for each
-- possible index of a router in the list of routers.
abbrev pub state_at : Database → ℕ → State
state_at d i = record { leg = i / MOST_ROUTERS + 1; router = slice_index (router_list d) (i % MOST_ROUTERS) }

-- The node (the record of a walk) that stands in for a missing element when a list of nodes is read
-- past its last element.
abbrev pub nowhere : Node
nowhere = record { parent = 0; by = None; leg = 0; router = 0; rank = 1 }

-- The node for the walk of the node `from`, continued by the given link, or by the step to the next
-- leg if no link is given. `at` is the index of `from`. A node is the record of a walk.
abbrev pub node_by : ℕ → Node → Option Link → Node
node_by at from (Some l) = record {
  parent = at;
  by = Some l;
  leg = from.leg;
  router = l.to;
  rank = from.rank + l.metric * COST_WEIGHT + 1;
}
node_by at from None = record {
  parent = from.parent;
  by = from.by;
  leg = from.leg + 1;
  router = from.router;
  rank = from.rank;
}

-- The node (the record of a walk) for the walk that a label holds. This walk continues the walk of
-- the settled node at the index `label.parent`, either by one link or by the step to the next leg
-- at the same router. A label holds the best walk found so far to a state, which is a router in a
-- leg.
abbrev pub node_of : Database → List Node → Label → Node
node_of d nodes label =
    node_by label.parent (slice_index_or nodes label.parent nowhere)
    (slice_get (links_from_index d label.place) label.row)

-- The rank in the label of a state (a router in a leg) to which no walk is known yet. It is greater
-- than the rank of any walk.
abbrev pub no_rank : ℕ
no_rank = 18446744073709551615

-- The lift of the state at the index `i`: how much the state's key in the heap exceeds the rank in
-- its label. The lift is the state's bound times `COST_WEIGHT`, the weight of one unit of cost. A
-- state is a router in a leg, and a label holds the best walk found so far to a state. A walk's
-- rank packs its cost and its number of links into one number.
abbrev pub lift : Goal → ℕ → ℕ
lift goal i = slice_index_or goal.bounds.now i 0 * COST_WEIGHT

-- The walk `w` can't begin the best route: its rank plus `ahead`, the lift of its state, exceeds
-- `cap`, the rank of a known walk to the tail-end. The lift of a state (a router in a leg) is its
-- bound times `COST_WEIGHT`. A walk's rank packs its cost and its number of links into one number.
pub record IsBeyond (cap ahead : ℕ) (w : List Link) : Type 0 where
  pub known : cap < no_rank
  pub behind : cap < walk_rank w + ahead

-- The label of the state `t`, which isn't settled, holds the best walk to `t` among the walks that
-- satisfy `P`. No other walk to `t` that satisfies `P` precedes the label's walk in the order of
-- walks. A walk is left out of this comparison if it can't begin the best route: if its rank plus
-- the lift `ahead` of `t` exceeds `cap`, the rank of a known walk to the tail-end. The lift of a
-- state (a router in a leg) is its bound times `COST_WEIGHT`. A walk's rank packs its cost and its
-- number of links into one number.
pub record IsReached (d : Database) (nodes : List Node) (P : List Link → State → Type 0)
    (cap ahead : ℕ) (t : State) (label : Label) : Type 0 where
  pub place : label.place < length (router_list d)
  pub parent : label.parent < length nodes
  pub rank : label.rank ≡ (node_of d nodes label).rank
  pub state : state_of (node_of d nodes label) ≡ t
  pub next : IsNext nodes (node_of d nodes label)
  pub passes : P (walk_of nodes (node_of d nodes label)) t
  pub first : (w : List Link) → P w t
      → IsNoLater (walk_of nodes (node_of d nodes label)) w ⊎ IsBeyond cap ahead w

-- The label of the state `t` (a router in a leg) is right, in one of three cases. The state is
-- settled. Or the label holds the best walk to this state so far. Or no walk to this state that
-- satisfies `P` can begin the best route.
pub data IsLabel (d : Database) (nodes : List Node) (P : List Link → State → Type 0)
    (cap ahead : ℕ) (t : State) (label : Label) : Type 0 where
  is_settled : (i : ℕ) → label.rank ≡ 0 → index_of nodes t ≡ Some i
      → IsLabel d nodes P cap ahead t label
  is_reached : index_of nodes t ≡ None → IsReached d nodes P cap ahead t label
      → IsLabel d nodes P cap ahead t label
  is_unreached : index_of nodes t ≡ None → label.rank ≡ no_rank
      → ((w : List Link) → P w t → IsBeyond cap ahead w) → IsLabel d nodes P cap ahead t label

-- A key in the heap: the rank in a state's label plus the state's lift, and then the index of the
-- state. The lift is the state's bound times `COST_WEIGHT`. The heap gives the least key first. A
-- state is a router in a leg, and a label holds the best walk found so far to a state. A walk's
-- rank packs its cost and its number of links into one number.
abbrev pub HeapKey : Type 0
HeapKey = Reverse (ℕ × ℕ)

abbrev pub heap_key_cmp : HeapKey → HeapKey → Ordering
heap_key_cmp x y = ordering_then (nat_cmp y.0.0 x.0.0) (nat_cmp y.0.1 x.0.1)

abbrev pub key_at : ℕ → ℕ → HeapKey
key_at key i = record { 0 = (key, i) }

-- The label that stands in for a missing element when a list of labels is read past its last
-- element. A label holds the best walk found so far to a state.
abbrev pub no_label : Label
no_label = record { rank = 18446744073709551615; parent = 0; place = 0; row = 0 }

abbrev pub label_at : List Label → ℕ → Label
label_at labels i = slice_index_or labels i no_label

-- In the leg of the state at the index `at`, all targets that a route may visit are settled,
-- according to their labels. A state is a router in a leg, and a label holds the best walk found so
-- far to a state. A leg's targets are the routers where it may end.
abbrev pub AreTargetsSettled : Database → List Role → List Label → ℕ → Type 0
AreTargetsSettled d roles labels at =
    (i : ℕ) → i % MOST_ROUTERS < length (router_list d) → i / MOST_ROUTERS ≡ at / MOST_ROUTERS
    → IsTrue (slice_index_or roles i nothing).target → (label_at labels i).rank ≡ 0

-- The leg of the state at the index `at` is closed: all its targets that a route may visit are
-- settled. `floor` is the first index of the next leg. A state is a router in a leg, and a leg's
-- targets are the routers where it may end.
pub record IsRaised (d : Database) (roles : List Role) (labels : List Label) (at floor : ℕ) : Type 0 where
  pub target : IsTrue (slice_index_or roles at nothing).target
  pub next : floor ≡ at - at % MOST_ROUTERS + MOST_ROUTERS
  pub settled : AreTargetsSettled d roles labels at

-- The first part of the key is the lift of the key's state plus a rank above 0, so it is greater
-- than this lift. The second part is the index of a state of the request. The lift of a state (a
-- router in a leg) is its bound times `COST_WEIGHT`. A walk's rank packs its cost and its number of
-- links into one number.
pub record IsKey (d : Database) (q : Request) (goal : Goal) (key : HeapKey) : Type 0 where
  pub some : lift goal key.0.1 < key.0.0
  pub most : key.0.0 < no_rank
  pub index : IsStateIndex d q key.0.1

-- The key still counts. It is the key that the present label of its state gives, and the state's
-- leg isn't closed, since the state's index isn't below the floor. A state is a router in a leg,
-- and a label holds the best walk found so far to a state. The floor is the first index after the
-- states of the closed legs.
pub record IsLive (goal : Goal) (labels : List Label) (key : HeapKey) : Type 0 where
  pub behind : goal.floor ≤ key.0.1
  pub same : (label_at labels key.0.1).rank + lift goal key.0.1 ≡ key.0.0

-- The label of each state after the closed legs meets `IsLabel`, where only walks that satisfy `P`
-- count. If such a state isn't settled and a walk to it is known, the heap has the state's key. A
-- state is a router in a leg, and a label holds the best walk found so far to a state.
pub record AreLabels (d : Database) (q : Request) (nodes : List Node)
    (P : List Link → State → Type 0) (goal : Goal) (labels : List Label) (keys : List HeapKey)
    : Type 0 where
  pub small : (i : ℕ) → slice_index_or goal.bounds.now i 0 < 2 ^ 32
  pub bounds : length goal.bounds.now ≡ (length q.hops + 1) * MOST_ROUTERS
  pub whole : goal.floor % MOST_ROUTERS ≡ 0
  pub many : length labels ≡ (length q.hops + 1) * MOST_ROUTERS
  pub each : (i : ℕ) → IsStateIndex d q i → goal.floor ≤ i
      → IsLabel d nodes P (label_at labels goal.at).rank (lift goal i) (state_at d i)
      (label_at labels i)
  pub ordered : IsHeap heap_key_cmp keys
  pub keyed : All (IsKey d q goal) keys
  pub waiting : (i : ℕ) → IsStateIndex d q i → goal.floor ≤ i → 0 < (label_at labels i).rank
      → (label_at labels i).rank < no_rank
      → Contains keys (key_at ((label_at labels i).rank + lift goal i) i)

-- The walk `w` to the state `t` continues one of the nodes at indexes below `at`, by one link or by
-- the step to the next leg. Or it continues the node at `at`, by the step to the next leg or by one
-- of the first `row` links from the router at the index `place`. A state is a router in a leg, and
-- a node is the record of a walk.
abbrev pub CrossesUpTo : Database → Request → List Node → ℕ → ℕ → ℕ → List Link → State
    → Type 0
CrossesUpTo d q nodes at place row w t =
    CrossesBelow d q nodes (links_of d) at w t
    ⊎ CrossesFrom d q nodes (take row (links_from_index d place)) at w t

-- The node at the index `at` has the state with the index `state`. A state is a router in a leg,
-- and a node is the record of a walk.
pub record IsNodeAt (d : Database) (q : Request) (nodes : List Node) (at state : ℕ) : Type 0 where
  pub within : at < length nodes
  pub index : IsStateIndex d q state
  pub there : state_of (slice_index_or nodes at nowhere) ≡ state_at d state

-- The walk of the node at the index `at` may leave the router of the state with the index `state`.
-- A state is a router in a leg, and a node is the record of a walk.
abbrev pub NodeMayLeave : Database → List Node → ℕ → ℕ → Type 0
NodeMayLeave d nodes at state =
    MayLeave d (slice_index (router_list d) (state % MOST_ROUTERS)) (length (walk_at (walks nodes) at))

-- The label may be offered to a state (a router in a leg). The walk that the label holds continues
-- one of the nodes `nodes`, and its node may be appended to them. A node is the record of a walk,
-- and a label holds the best walk found so far to a state.
pub record IsOffer (d : Database) (nodes : List Node) (label : Label) : Type 0 where
  pub place : label.place < length (router_list d)
  pub parent : label.parent < length nodes
  pub next : IsNext nodes (node_of d nodes label)

-- The walks of both labels have the same rank. A label holds the best walk found so far to a state,
-- and a walk's rank packs its cost and its number of links into one number.
pub record AreTied (d : Database) (nodes : List Node) (old label : Label) : Type 0 where
  pub other : IsOffer d nodes old
  pub rank : (node_of d nodes old).rank ≡ (node_of d nodes label).rank

-- The heap has gained one key: `new` has all keys of `old`, and the key `key`.
pub record Gains (key : HeapKey) (old new : List HeapKey) : Type 0 where
  pub kept : IsHeap heap_key_cmp old → IsHeap heap_key_cmp new
  pub moved : IsPermutation (key ∷ old) new

-- The key isn't less than the key with the parts `rank` and `i`. The first part of a key is the
-- rank in a state's label plus the state's lift, and the second is the state's index. The lift is
-- the state's bound times `COST_WEIGHT`. A walk's rank packs its cost and its number of links into
-- one number.
abbrev pub IsUpTo : ℕ → ℕ → HeapKey → Type 0
IsUpTo rank i key = (rank < key.0.0) ⊎ ((rank ≡ key.0.0) × (i ≤ key.0.1))

-- The state with the index `i` has the least key of all waiting states in legs that aren't closed.
-- A state (a router in a leg) waits if a walk to it is known and it isn't settled. `old` has the
-- keys of the heap before the key of `i` is popped, and `new` has the keys after that.
pub record IsLeast (d : Database) (q : Request) (goal : Goal) (labels : List Label)
    (old : List HeapKey) (i : ℕ) (new : List HeapKey) : Type 0 where
  pub index : IsStateIndex d q i
  pub behind : goal.floor ≤ i
  pub some : 0 < (label_at labels i).rank
  pub most : (label_at labels i).rank < no_rank
  pub ordered : IsHeap heap_key_cmp new
  pub keyed : All (IsKey d q goal) new
  pub first : (key : HeapKey) → Contains old key → IsLive goal labels key
      → IsUpTo ((label_at labels i).rank + lift goal i) i key
  pub others : (key : HeapKey) → Contains old key → IsLive goal labels key
      → (key.0.1 ≡ i) ⊎ Contains new key

-- The heap still has each key whose state has an index from `floor` on, and it has no new key. The
-- states at lower indexes are in closed legs. A state is a router in a leg.
pub record IsOpenOf (floor : ℕ) (old new : List HeapKey) : Type 0 where
  pub ordered : IsHeap heap_key_cmp new
  pub kept : (key : HeapKey) → Contains old key → floor ≤ key.0.1 → Contains new key
  pub only : (key : HeapKey) → Contains new key → Contains old key

-- The offered label loses a tie, so the state with the index `i` keeps its old label. Both labels
-- have the same rank, and the old label's walk doesn't come later by the local addresses. A state
-- is a router in a leg, and a label holds the best walk found so far to a state. A walk's rank
-- packs its cost and its number of links into one number.
pub record StaysAt (d : Database) (nodes : List Node) (i : ℕ) (label : Label)
    (old new : List Label) (old_keys new_keys : List HeapKey) : Type 0 where
  pub tie : label.rank ≡ (label_at old i).rank
  pub first : is_gt (locals_cmp (walk_of nodes (node_of d nodes (label_at old i)))
      (walk_of nodes (node_of d nodes label))) ≡ false
  pub labels : new ≡ old
  pub keys : new_keys ≡ old_keys

-- The heap has the key of the offered label. If the old label has the same rank, the heap already
-- has this key, and doesn't change. A label holds the best walk found so far to a state, and a
-- walk's rank packs its cost and its number of links into one number.
abbrev pub HasKey : ℕ → ℕ → HeapKey → List HeapKey → List HeapKey → Type 0
HasKey rank before key old new = ((rank ≡ before) × (new ≡ old)) ⊎ Gains key old new

-- The state with the index `i` gets the offered label. If both labels have the same rank, the
-- offered label's walk precedes the old one's by the local addresses. A state is a router in a leg,
-- and a label holds the best walk found so far to a state. A walk's rank packs its cost and its
-- number of links into one number.
pub record GoesTo (d : Database) (nodes : List Node) (i : ℕ) (label : Label) (key : ℕ)
    (old new : List Label) (old_keys new_keys : List HeapKey) : Type 0 where
  pub first : label.rank ≡ (label_at old i).rank
      → is_gt (locals_cmp (walk_of nodes (node_of d nodes (label_at old i)))
      (walk_of nodes (node_of d nodes label))) ≡ true
  pub labels : new ≡ set old i label
  pub keys : HasKey label.rank (label_at old i).rank (key_at key i) old_keys new_keys

-- The last leg below the floor, if there is one, is closed: each of its routers at which a route
-- may go on to the next leg is settled in it. The floor is the first index after the states
-- (routers in legs) of the closed legs. The index of the goal isn't below the floor.
pub record IsFloor (d : Database) (q : Request) (labels : Labels) (goal : Goal) : Type 0 where
  pub low : goal.floor ≤ goal.at
  pub shut : IsClosed d q labels (goal.floor / MOST_ROUTERS)
