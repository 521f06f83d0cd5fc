-- Private: the nodes of settled walks.
use Rattle.std.specs.Prelude.{◌≡◌, ℕ, ◌+◌, ◌*◌, ◌^◌, ◌<◌, ◌≤◌, Bool, false, ◌&&◌, nat_eq, Option, Some, None, IsSome, option_map, position, List, [], ◌∷◌, ◌++◌, length, slice_index_or}
use Rattle.std.specs.List.{All, AllPairs}
use Rattle.cspf_model.specs.declared.link.Link.{Link}
use Rattle.cspf_model.specs.declared.request.Request.{Request}
use Rattle.cspf_model.specs.Walks.{cost_of}
use Rattle.cspf_search.specs.declared.arena.Node.{Node}
use Rattle.cspf_search.specs.declared.limits.TheConstants.{COST_WEIGHT}
use Rattle.cspf_search.specs.States.{State}
use Rattle.cspf_search.specs.Settled.{Labels}

-- The links of `walk`, followed by the given link if there is one.
abbrev pub walk_with : List Link → Option Link → List Link
walk_with walk None = walk
walk_with walk (Some l) = walk ++ (l ∷ [])

-- The walk at the index `i` of a list of walks.
abbrev pub walk_at : List (List Link) → ℕ → List Link
walk_at walks i = slice_index_or walks i []

-- The list `done`, followed by the walk of each node (the record of a walk). The `parent` of a node
-- is the index of the earlier walk that the node continues.
abbrev pub walks_after : List (List Link) → List Node → List (List Link)
walks_after done [] = done
walks_after done (n ∷ ns) = walks_after (done ++ (walk_with (walk_at done n.parent) n.by ∷ [])) ns

-- The walks of the nodes (records of walks). A node's walk is its parent's walk, continued by the
-- node's link.
abbrev pub walks : List Node → List (List Link)
walks nodes = walks_after [] nodes

-- The walk of the node `n` (the record of a walk), whose parent is one of the nodes `nodes`.
abbrev pub walk_of : List Node → Node → List Link
walk_of nodes n = walk_with (walk_at (walks nodes) n.parent) n.by

-- The state that the walk of a node (the record of a walk) has reached: its router, in the leg of
-- the request that the walk is in.
abbrev pub state_of : Node → State
state_of n = record { leg = n.leg; router = n.router }

-- Whether two states have the same leg and the same router.
abbrev pub same_state : State → State → Bool
same_state s t = nat_eq s.leg t.leg && nat_eq s.router t.router

-- The index of the first node with this state. A state is a router in a leg, and a node is the
-- record of a walk.
abbrev pub index_of : List Node → State → Option ℕ
index_of nodes s = position (λ n. same_state (state_of n) s) nodes

-- The settled walk of a state is the walk of the first node with this state. A state is a router in
-- a leg, and a node is the record of a walk.
abbrev pub labels_of : List Node → Labels
labels_of nodes s = option_map (λ i. walk_at (walks nodes) i) (index_of nodes s)

-- The rank of a walk packs its cost and its number of links into one number. It is always above 0.
abbrev pub walk_rank : List Link → ℕ
walk_rank w = cost_of w * COST_WEIGHT + length w + 1

-- The node's rank is the rank of its walk, which packs the walk's cost and its number of links into
-- one number. The number of links plus the node's leg is at most the node's index plus 1, because
-- each link and each step to a next leg needs one earlier node. The walk costs at most 2^32 for
-- each of its links.
pub record IsRanked (n : Node) (walk : List Link) (index : ℕ) : Type 0 where
  pub rank : n.rank ≡ walk_rank walk
  pub few : length walk + n.leg ≤ index + 1
  pub small : cost_of walk ≤ length walk * 2 ^ 32

-- If the walk of a node (the record of a walk) has links, the node holds the last of these links.
abbrev pub HasLast : Node → Type 0
HasLast n = 1 < n.rank → IsSome n.by

-- The root is the first node (the record of a walk). It has no link, and its `parent` is its own
-- index, 0.
pub record IsRoot (n : Node) : Type 0 where
  pub parent : n.parent ≡ 0
  pub by : n.by ≡ None

-- The nodes (records of walks) form a tree: every node except the root follows its parent in the
-- list. No two nodes have the same state (a router in a leg). There are at most 8,192 nodes: at
-- most one for each of 1,024 routers in each of eight legs.
pub record AreNodes (nodes : List Node) : Type 0 where
  pub some : 0 < length nodes
  pub most : length nodes ≤ 8192
  pub root : (d : Node) → IsRoot (slice_index_or nodes 0 d)
  pub begun : walk_at (walks nodes) 0 ≡ []
  pub linked : (i : ℕ) (d : Node) → i < length nodes → HasLast (slice_index_or nodes i d)
  pub back : (i : ℕ) (d : Node) → 0 < i → i < length nodes → (slice_index_or nodes i d).parent < i
  pub grown : (i : ℕ) (d : Node) → i < length nodes
      → walk_at (walks nodes) i ≡ walk_of nodes (slice_index_or nodes i d)
  pub ranked : (i : ℕ) (d : Node) → i < length nodes
      → IsRanked (slice_index_or nodes i d) (walk_at (walks nodes) i) i
  pub apart : AllPairs (λ m n. same_state (state_of m) (state_of n) ≡ false) nodes

-- The node (the record of a walk) may be appended to the settled nodes `nodes`: its parent is one
-- of them.
pub record IsNext (nodes : List Node) (n : Node) : Type 0 where
  pub parent : n.parent < length nodes
  pub linked : HasLast n
  pub ranked : IsRanked n (walk_of nodes n) (length nodes)

-- The node's leg is a leg of the request.
pub record IsInLeg (q : Request) (n : Node) : Type 0 where
  pub low : 1 ≤ n.leg
  pub high : n.leg ≤ length q.hops + 1

-- The leg of each node (the record of a walk) is a leg of the request.
abbrev pub AreInLegs : Request → List Node → Type 0
AreInLegs q nodes = All (IsInLeg q) nodes

-- The first node (the record of a walk): the head-end in the first leg, with a walk without links.
abbrev pub root_of : Request → Node
root_of q = record { parent = 0; by = None; leg = 1; router = q.from; rank = 1 }
