-- Private: what holds after a search has looked at the links of a router.
use Rattle.std.specs.Prelude.{◌≡◌, ◌≢◌, ℕ, ◌+◌, ◌<◌, ◌≤◌, ◌⊎◌, Some, List, slice_get}
use Rattle.cspf_columns.specs.declared.limits.TheConstants.{NO_LINK}
use Rattle.cspf_model.specs.declared.limits.TheConstants.{MOST_ROUTERS}
use Rattle.cspf_model.specs.declared.link.Link.{Link}
use Rattle.cspf_model.specs.declared.request.Request.{Request}
use Rattle.cspf_model.specs.Database.{Database, HasTransit}
use Rattle.cspf_model.specs.Admissible.{IsAdmitted}
use Rattle.cspf_db.specs.Index.{links_from_index, links_of}
use Rattle.cspf_graph.specs.Lists.{router_at}
use Rattle.cspf_meet.specs.declared.limits.TheConstants.{NO_WAY}
use Rattle.cspf_meet.specs.declared.direction.Direction.{Direction}
use Rattle.cspf_meet.specs.declared.direction.Direction.TheVariants.{Ahead, Back}
use Rattle.cspf_meet.specs.declared.labels.Labels.{Labels}
use Rattle.cspf_meet.specs.Labels.{IsWaiting, rank_at}
use Rattle.cspf_walk.specs.declared.located_request.LocatedRequest.{LocatedRequest}
use Rattle.cspf_walk.specs.Ways.{Leads, link_step}

-- A link that a route may use leads to the router at the index `w` from the router at the index
-- `u`, and adds `step` to the rank of a way.
abbrev pub LeadsBack : Database → Request → ℕ → ℕ → ℕ → Type 0
LeadsBack d q w u step = Leads d q u w step

-- The steps of a search: along the links from the head-end, or against them from the tail-end.
abbrev pub Steps : Direction → Database → Request → ℕ → ℕ → ℕ → Type 0
Steps Ahead d q = Leads d q
Steps Back d q = LeadsBack d q

-- The links that a search reads when it looks at the router with the index `place`.
abbrev pub links_read : Direction → Database → ℕ → List Link
links_read Ahead d place = links_from_index d place
links_read Back d place = links_of d

-- The index of a link among the links that a search reads. The link is at the index `row` among the
-- links from a router, or it is the reverse of the link there, with the index `reverse`.
abbrev pub link_index : Direction → ℕ → ℕ → ℕ
link_index Ahead row reverse = row
link_index Back row reverse = reverse

-- The index of the router where the other search begins.
abbrev pub goal_of : Direction → LocatedRequest → ℕ
goal_of Ahead query = query.to
goal_of Back query = query.from

-- The router where the other search begins.
abbrev pub goal_router : Direction → Request → ℕ
goal_router Ahead q = q.to
goal_router Back q = q.from

-- A way may reach the router with the index `place`: the router has transit, or `place` is `goal`.
abbrev pub MayReach : Database → ℕ → ℕ → Type 0
MayReach d goal place = HasTransit d (router_at d place) ⊎ (place ≡ goal)

-- The rank at the end of a step is known: it is at most `rank` plus the step, and below `NO_WAY` if
-- `rank` is. Or that sum is greater than `most`, which is below `NO_WAY`.
pub record IsKnown (end rank step : ℕ) : Type 0 where
  pub low : end ≤ rank + step
  pub some : rank < NO_WAY → end < NO_WAY

pub record IsBeyondMost (most rank step : ℕ) : Type 0 where
  pub high : most < rank + step
  pub met : most < NO_WAY

-- The rank at the end of a step is known, or the way over this step is beyond `most`.
abbrev pub IsStepPassed : ℕ → ℕ → ℕ → ℕ → Type 0
IsStepPassed end most rank step = IsKnown end rank step ⊎ IsBeyondMost most rank step

-- For each step from the router with the index `v` to another router, the rank there is known, or
-- the way over this step is beyond `most`. The rank of the router `v` is `rank`.
abbrev pub AreStepsPassed : (ℕ → ℕ → ℕ → Type 0) → List ℕ → ℕ → ℕ → ℕ → Type 0
AreStepsPassed Steps ranks most rank v = (w step : ℕ) → Steps v w step → IsStepPassed (rank_at ranks w) most rank step

-- The search has looked at each router with an index below `MOST_ROUTERS`, or the router waits.
-- After a search has looked at a router, `AreStepsPassed` holds for the router's rank.
abbrev pub AreLookedAt : (ℕ → ℕ → ℕ → Type 0) → Labels → ℕ → Type 0
AreLookedAt Steps labels most =
    (v : ℕ) → v < MOST_ROUTERS
    → AreStepsPassed Steps labels.ranks.items most (rank_at labels.ranks.items v) v ⊎ IsWaiting labels v

-- No router waits.
abbrev pub HasNoneWaiting : Labels → Type 0
HasNoneWaiting labels = (v : ℕ) → ¬ IsWaiting labels v

-- The search has looked at the link at the index `at` of `links`. If the request admits the link,
-- it has a reverse, and a way may reach the router with the index `place`, the rank of this router
-- is known, or the way over the link is beyond `most`.
abbrev pub IsLinkOffered : Database → Request → List Link → ℕ → ℕ → ℕ → ℕ → ℕ → List ℕ → ℕ → Type 0
IsLinkOffered d q links rank goal at place reverse ranks most =
    (l : Link) → slice_get links at ≡ Some l → reverse ≢ NO_LINK → IsAdmitted q l → MayReach d goal place
    → IsStepPassed (rank_at ranks place) most rank (link_step l)
