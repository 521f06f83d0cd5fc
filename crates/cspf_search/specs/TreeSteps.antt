-- Private: the steps by which a tree is grown.
use Rattle.std.specs.Prelude.{◌≡◌, ℕ, ◌+◌, ◌≤◌, Bool, true, false, Some, List, slice_get, slice_index_or}
use Rattle.cspf_model.specs.declared.link.Link.{Link}
use Rattle.cspf_model.specs.declared.request.Request.{Request}
use Rattle.cspf_model.specs.Database.{Database}
use Rattle.cspf_model.specs.Admissible.{HasAffinity}
use Rattle.cspf_db.specs.Index.{links_of}
use Rattle.cspf_search.specs.declared.tree_ring.TreeRing.{TreeRing}
use Rattle.cspf_graph.specs.Lists.{IsIndexOf}
use Rattle.cspf_graph.specs.Roles.{MayLeadOver}
use Rattle.cspf_search.specs.Bounds.{bound_at}
use Rattle.cspf_search.specs.Settled.{IsWithin}
use Rattle.cspf_search.specs.Trees.{IsInClass}

-- The costs and numbers of links of two routers are consistent over a link between the routers. The
-- router at the link's start has the cost `near` to the tail-end, over `links` links. The router at
-- the link's end has the cost `ahead`. `near` is at most `ahead` plus the link's metric. If `near`
-- is exactly this sum, `links` is at most `count`.
abbrev pub IsRankWithin : ℕ → ℕ → ℕ → ℕ → ℕ → Type 0
IsRankWithin near links ahead count metric = IsWithin near ahead metric × (near ≡ ahead + metric → links ≤ count)

-- The costs and numbers of links meet `IsRankWithin` over each link of the request's class, if the
-- router at the link's end has the entry `true` in `marks` and a way to the tail-end may lead over
-- this router. A link is in the class if it has a reverse and passes the request's affinities.
abbrev pub AreTreeBounds : Database → Request → List ℕ → List ℕ → List Bool → Type 0
AreTreeBounds d q near links marks =
    (u w : ℕ) → slice_index_or marks w false ≡ true → (l : Link) → IsInClass d q l → MayLeadOver d q l.to → IsIndexOf d l.from u → IsIndexOf d l.to w
    → IsRankWithin (bound_at near u) (bound_at links u) (bound_at near w) (bound_at links w + 1) l.metric

-- The costs and numbers of links meet `IsRankWithin` over each link of the request's class, if the
-- router at the link's end is done and a way to the tail-end may lead over this router. A link is
-- in the class if it has a reverse and passes the request's affinities. A router is done if the
-- search has looked at all links that end at this router.
abbrev pub IsTreeRing : Database → Request → TreeRing → Type 0
IsTreeRing d q ring = AreTreeBounds d q ring.near.items ring.links.items ring.done.items

-- Whether the search has looked at all links that end at the router with the index `w`.
abbrev pub is_settled_there : TreeRing → ℕ → Bool
is_settled_there ring w = slice_index_or ring.done.items w false

-- The router at the index `at` has a cost to the tail-end of at most `ahead`. If this cost is
-- exactly `ahead`, the router's way to the tail-end has at most `count` links.
abbrev pub IsAsNear : TreeRing → ℕ → ℕ → ℕ → Type 0
IsAsNear ring at ahead count =
    (bound_at ring.near.items at ≤ ahead) × (bound_at ring.near.items at ≡ ahead → bound_at ring.links.items at ≤ count)

-- No router's cost to the tail-end is greater in `new` than in `old`. If its cost is the same, its
-- number of links isn't greater.
abbrev pub IsTreeLower : TreeRing → TreeRing → Type 0
IsTreeLower old new = (i : ℕ) → IsAsNear new i (bound_at old.near.items i) (bound_at old.links.items i)

-- No router has a greater cost to the tail-end in `new` than in `old`, nor more links at the same
-- cost. If a router is done in `new`, it was done in `old` with the same cost and the same number
-- of links. A router is done if the search has looked at all links that end at this router.
pub record TreeFalls (old new : TreeRing) : Type 0 where
  pub lower : IsTreeLower old new
  pub kept : (i : ℕ) → is_settled_there new i ≡ true
      → (is_settled_there old i ≡ true) × (bound_at new.near.items i ≡ bound_at old.near.items i) × (bound_at new.links.items i ≡ bound_at old.links.items i)

-- The search has handled the link at the index `at`, which begins at the router `from`. If this
-- link passes the affinities of the request, the cost from `from` to the tail-end is at most `base`
-- plus the link's metric. If the cost is exactly this sum, `from` has at most `count` links to the
-- tail-end.
abbrev pub IsLinkPassed : Database → Request → ℕ → ℕ → TreeRing → ℕ → ℕ → Type 0
IsLinkPassed d q base count ring from at =
    (l : Link) → slice_get (links_of d) at ≡ Some l → HasAffinity q l
    → IsRankWithin (bound_at ring.near.items from) (bound_at ring.links.items from) base count l.metric

-- The search has handled each link of the request's class that ends at the router `to`. The cost
-- from the router at the link's start to the tail-end is at most `base` plus the link's metric. If
-- the cost is exactly this sum, that router has at most `count` links to the tail-end. A link is in
-- the class if it has a reverse and passes the request's affinities.
abbrev pub AreLinksPassed : Database → Request → ℕ → ℕ → TreeRing → ℕ → Type 0
AreLinksPassed d q base count ring to =
    (u : ℕ) (l : Link) → IsInClass d q l → IsIndexOf d l.from u → IsIndexOf d l.to to
    → IsRankWithin (bound_at ring.near.items u) (bound_at ring.links.items u) base count l.metric
