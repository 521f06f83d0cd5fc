-- Private: the search from the head-end that lower bounds guide.
use Rattle.std.specs.Prelude.{◌≡◌, ◌≢◌, ℕ, ◌+◌, ◌*◌, ◌<◌, ◌≤◌, ◌⊎◌, Some, List, Contains, max, slice_get}
use Rattle.std.specs.BinaryHeap.{heap_items}
use Rattle.cspf_columns.specs.declared.limits.TheConstants.{NO_LINK}
use Rattle.cspf_model.specs.declared.limits.TheConstants.{MOST_ROUTERS}
use Rattle.cspf_model.specs.declared.link.Link.{Link}
use Rattle.cspf_model.specs.declared.request.Request.{Request}
use Rattle.cspf_model.specs.Database.{Database}
use Rattle.cspf_model.specs.Admissible.{IsAdmitted}
use Rattle.cspf_meet.specs.declared.bounds.RankBounds.{RankBounds}
use Rattle.cspf_meet.specs.declared.guided.Guided.{Guided}
use Rattle.cspf_meet.specs.declared.limits.TheConstants.{NO_KEY}
use Rattle.cspf_meet.specs.Bounds.{rank_bound}
use Rattle.cspf_meet.specs.Labels.{RanksFall, rank_at, waiting_key}
use Rattle.cspf_meet.specs.Looks.{MayReach}
use Rattle.cspf_walk.specs.Ways.{Leads, link_step}

-- The key of the router with the index `v`, at its present rank and its bound.
abbrev pub guided_key : (ℕ → ℕ) → Guided → ℕ → ℕ
guided_key bounds guided v = (rank_at guided.ranks.items v + bounds v) * MOST_ROUTERS + v

-- The router with the index `v` waits to be looked at: its key is in the heap, or it is the next.
abbrev pub IsGuidedWaiting : (ℕ → ℕ) → Guided → ℕ → Type 0
IsGuidedWaiting bounds guided v =
    Contains (heap_items guided.heap) (waiting_key (rank_at guided.ranks.items v + bounds v) v)
    ⊎ ((guided.next ≡ guided_key bounds guided v) × (guided.next < NO_KEY))

-- The ranks fall, and the least rank of a way to the tail-end doesn't rise. A router with a lower
-- rank waits, and a router that waited still waits.
pub record GuidedFalls (bounds : ℕ → ℕ) (old new : Guided) : Type 0 where
  pub ranks : RanksFall old.ranks.items new.ranks.items (IsGuidedWaiting bounds old) (IsGuidedWaiting bounds new)
  pub most : new.most ≤ old.most

-- The search has passed a step from a router of the rank `rank` to the router with the index `w`:
-- the rank there is at most `rank` plus the step, or each way over this step has a greater rank
-- than `most`.
abbrev pub IsStepGuided : (ℕ → ℕ) → List ℕ → ℕ → ℕ → ℕ → ℕ → Type 0
IsStepGuided bounds ranks most rank w step = (rank_at ranks w ≤ rank + step) ⊎ (most < rank + step + bounds w)

-- The search has passed each step from the router with the index `v`, whose rank is `rank`.
abbrev pub AreStepsGuided : Database → Request → (ℕ → ℕ) → List ℕ → ℕ → ℕ → ℕ → Type 0
AreStepsGuided d q bounds ranks most rank v = (w step : ℕ) → Leads d q v w step → IsStepGuided bounds ranks most rank w step

-- The search has passed each step from each router, or the router waits.
abbrev pub AreGuided : Database → Request → (ℕ → ℕ) → Guided → Type 0
AreGuided d q bounds guided =
    (v : ℕ) → v < MOST_ROUTERS
    → AreStepsGuided d q bounds guided.ranks.items guided.most (rank_at guided.ranks.items v) v ⊎ IsGuidedWaiting bounds guided v

-- The search has looked at the link at the index `at` of `links`. If the request admits the link,
-- it has a reverse, and a way may reach the router with the index `place`, the step is passed.
abbrev pub IsLinkGuided : Database → Request → (ℕ → ℕ) → List Link → ℕ → ℕ → ℕ → ℕ → ℕ → List ℕ → ℕ → Type 0
IsLinkGuided d q bounds links rank goal at place reverse ranks most =
    (l : Link) → slice_get links at ≡ Some l → reverse ≢ NO_LINK → IsAdmitted q l → MayReach d goal place
    → IsStepGuided bounds ranks most rank place (link_step l)

-- The greater of two lower bounds of the rank of a way to the tail-end.
abbrev pub guided_bound : (ℕ → ℕ) → RankBounds → ℕ → ℕ
guided_bound bounds ranks v = max (bounds v) (rank_bound ranks v)
