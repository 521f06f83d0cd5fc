-- Private: trees of lower bounds. Requests with the same tail-end and the same affinities share a
-- tree.
use Rattle.std.specs.Prelude.{◌≡◌, ℕ, ◌+◌, ◌/◌, ◌%◌, ◌≤◌}
use Rattle.cspf_model.specs.declared.link.Link.{Link}
use Rattle.cspf_model.specs.declared.request.Request.{Request}
use Rattle.cspf_model.specs.Database.{Database, HasReverse, IsLinkOf}
use Rattle.cspf_model.specs.Admissible.{HasAffinity}
use Rattle.cspf_search.specs.declared.tree.Tree.{Tree}
use Rattle.cspf_graph.specs.Lists.{IsIndexOf}
use Rattle.cspf_graph.specs.Roles.{MayLeadOver}
use Rattle.cspf_walk.specs.declared.limits.TheConstants.{COST_WEIGHT}
use Rattle.cspf_search.specs.Bounds.{bound_at}
use Rattle.cspf_search.specs.Settled.{IsWithin}

-- The requests have the same tail-end and the same affinities. Their ids, head-ends, setup
-- priorities, bandwidths and hops may differ.
pub record ShareTrees (q r : Request) : Type 0 where
  pub to : r.to ≡ q.to
  pub exclude_any : r.exclude_any ≡ q.exclude_any
  pub include_any : r.include_any ≡ q.include_any
  pub include_all : r.include_all ≡ q.include_all

-- The link and its reverse are in the database, and the link passes the affinities of the request.
-- So the link is admissible for the same request with bandwidth 0.
pub record IsInClass (d : Database) (q : Request) (l : Link) : Type 0 where
  pub link : IsLinkOf d l
  pub reverse : HasReverse d l
  pub affinity : HasAffinity q l

-- A lower bound of the cost from the router at the index `place` to the tail-end.
abbrev pub tree_bound : Tree → ℕ → ℕ
tree_bound tree place = bound_at tree.ranks.items place / COST_WEIGHT

-- The tree's number of links from the router at the index `place` to the tail-end.
abbrev pub tree_links : Tree → ℕ → ℕ
tree_links tree place = bound_at tree.ranks.items place % COST_WEIGHT

-- A lower bound of the rank of a way from the router at the index `place` to the tail-end. The rank
-- of a way packs its cost and its number of links into one number.
abbrev pub tree_rank : Tree → ℕ → ℕ
tree_rank tree place = bound_at tree.ranks.items place

-- The tree belongs to the tail-end and the affinities of the request in the database. It gives for
-- each router a lower bound of the cost to the tail-end, and a number of links. At the tail-end
-- both are 0.
--
-- Links count here if they have a reverse, pass the affinities, and end at a router with transit or
-- at the tail-end. For each such link, the bound at its start is at most the bound at its end plus
-- its metric. If the bound at its start is exactly this sum, the number of links at its start is at
-- most one more than at its end. If the bound at its end isn't `NO_WAY`, the bound at its start
-- isn't `NO_WAY` either.
--
-- So the bound of a router is at most the cost of any way to the tail-end. A way that costs exactly
-- the bound has at least the router's number of links. If the bound is `NO_WAY`, there is no way.
pub record IsTree (d : Database) (q : Request) (tree : Tree) : Type 0 where
  pub links : (u w : ℕ) (l : Link) → IsInClass d q l → MayLeadOver d q l.to → IsIndexOf d l.from u → IsIndexOf d l.to w
      → IsWithin (tree_bound tree u) (tree_bound tree w) l.metric
  pub end : (place : ℕ) → IsIndexOf d q.to place → tree_bound tree place ≡ 0
  pub fewer : (u w : ℕ) (l : Link) → IsInClass d q l → MayLeadOver d q l.to → IsIndexOf d l.from u → IsIndexOf d l.to w
      → tree_bound tree u ≡ tree_bound tree w + l.metric → tree_links tree u ≤ tree_links tree w + 1
  pub end_links : (place : ℕ) → IsIndexOf d q.to place → tree_links tree place ≡ 0

-- Law: requests with the same tail-end and the same affinities share a tree.
abbrev pub TreesAreShared : Type 0
TreesAreShared = (d : Database) (q r : Request) (tree : Tree) → ShareTrees q r → IsTree d q tree → IsTree d r tree
