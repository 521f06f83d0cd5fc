-- Private: walks over tight links. A link is tight if a lower bound of the rank falls over the link
-- by exactly the link's step.
use Rattle.std.specs.Prelude.{◌≡◌, ℕ, ◌+◌, ◌<◌, ◌⊎◌, Some, List, ◌∷◌, ◌++◌, length, slice_get}
use Rattle.std.specs.List.{AllByRecursion}
use Rattle.cspf_model.specs.declared.link.Link.{Link}
use Rattle.cspf_model.specs.declared.request.Request.{Request}
use Rattle.cspf_model.specs.Database.{Database, HasTransit}
use Rattle.cspf_model.specs.Admissible.{IsUsable}
use Rattle.cspf_model.specs.Walks.{AreJoined, IsWalk, end_of}
use Rattle.cspf_model.specs.Routes.{IsRoute}
use Rattle.cspf_db.specs.Index.{links_from_index, router_list}
use Rattle.cspf_walk.specs.declared.edge.Edge.{Edge}
use Rattle.cspf_graph.specs.Lists.{IsIndexOf, router_at}
use Rattle.cspf_graph.specs.Roles.{MayLeadOver}
use Rattle.cspf_walk.specs.Edges.{IsEdge}
use Rattle.cspf_walk.specs.Ways.{IsWayLink, rank_of, link_step}

-- The link `l` from the router at the index `place` is tight, and the request may use it. A way to
-- the tail-end may lead over the router at its end. The bound at the link's start is the link's step
-- plus the bound at its end.
pub record IsTight (d : Database) (q : Request) (bound : ℕ → ℕ) (place : ℕ) (l : Link) : Type 0 where
  pub usable : IsUsable d q l
  pub over : MayLeadOver d q l.to
  pub falls : (end : ℕ) → IsIndexOf d l.to end → bound place ≡ link_step l + bound end

-- None of the first `before` links from the router at the index `place` is tight.
abbrev pub AreSlack : Database → Request → (ℕ → ℕ) → ℕ → ℕ → Type 0
AreSlack d q bound place before =
    (row : ℕ) (l : Link) → row < before → slice_get (links_from_index d place) row ≡ Some l → ¬ IsTight d q bound place l

-- `edge` is the first tight link from the router at the index `place`.
pub record IsNextTight (d : Database) (q : Request) (bound : ℕ → ℕ) (place : ℕ) (edge : Edge) : Type 0 where
  pub is_edge : IsEdge d place edge
  pub tight : IsTight d q bound place edge.link.now
  pub slack : AreSlack d q bound place edge.row

-- The links of `way` lead from the router to the tail-end, and a route may use each of them.
pub record IsWayToEnd (d : Database) (q : Request) (router : ℕ) (way : List Link) : Type 0 where
  pub links : AllByRecursion (IsWayLink d q) way
  pub joined : AreJoined router way
  pub end : end_of router way ≡ q.to

-- The route begins with the links of `walk`, which end at the router at the index `place`. The rest
-- of the route has the rank that the bound gives for this router.
pub record GoesOn (d : Database) (q : Request) (bound : ℕ → ℕ) (walk : List Link) (place : ℕ) (route : List Link) : Type 0 where
  pub rest : List Link
  pub whole : route ≡ walk ++ rest
  pub way : IsWayToEnd d q (router_at d place) rest
  pub rank : rank_of rest ≡ bound place

-- The route and the walk begin with the same links. At the first difference, the route's link has
-- the greater local address.
pub record LeavesLater (walk route : List Link) : Type 0 where
  pub front : List Link
  pub taken : Link
  pub other : Link
  pub on : List Link
  pub rest : List Link
  pub is_walk : walk ≡ front ++ (taken ∷ on)
  pub is_route : route ≡ front ++ (other ∷ rest)
  pub later : taken.local < other.local

-- The walk leads from the head-end, whose index is `from`, to the router at the index `place`. The
-- walk's rank is the bound of the head-end minus the bound of that router.
--
-- Each route with the rank that the bound gives for the head-end begins with the walk, or leaves the
-- walk by a link with a greater local address.
pub record IsTightWalk (d : Database) (q : Request) (bound : ℕ → ℕ) (from : ℕ) (walk : List Link) (place : ℕ) : Type 0 where
  pub within : place < length (router_list d)
  pub is_walk : IsWalk d q walk
  pub ends : end_of q.from walk ≡ router_at d place
  pub leaves : (HasTransit d (router_at d place) ⊎ (length walk ≡ 0)) ⊎ (router_at d place ≡ q.to)
  pub rank : rank_of walk + bound place ≡ bound from
  pub first : (route : List Link) → IsRoute d q route → rank_of route ≡ bound from
      → GoesOn d q bound walk place route ⊎ LeavesLater walk route
