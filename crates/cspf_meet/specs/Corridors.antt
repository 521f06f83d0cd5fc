-- Private: the corridor, which has the routers that may lie on a way of the least rank.
use Rattle.std.specs.Prelude.{◌≡◌, ◌≢◌, ℕ, ◌+◌, ◌<◌, ◌≤◌, ◌⊎◌, Some, List, Contains, slice_get}
use Rattle.cspf_columns.specs.declared.limits.TheConstants.{NO_LINK}
use Rattle.cspf_model.specs.declared.limits.TheConstants.{MOST_ROUTERS}
use Rattle.cspf_model.specs.declared.link.Link.{Link}
use Rattle.cspf_model.specs.declared.request.Request.{Request}
use Rattle.cspf_model.specs.Database.{Database}
use Rattle.cspf_model.specs.Admissible.{IsAdmitted}
use Rattle.cspf_db.specs.Index.{links_of}
use Rattle.cspf_meet.specs.declared.bounds.HeadBounds.{HeadBounds}
use Rattle.cspf_meet.specs.declared.corridor.Corridor.{Corridor}
use Rattle.cspf_meet.specs.Bounds.{head_bound}
use Rattle.cspf_meet.specs.Labels.{RanksFall, rank_at}
use Rattle.cspf_meet.specs.Looks.{LeadsBack, MayReach}
use Rattle.cspf_walk.specs.Ways.{link_step}

-- For each link that a route may use to the router with the index `v`, from a router `u`: the rank
-- of `u` is at most `rank` plus the link's step, or a way from the head-end over this link has a
-- greater rank than `head.most`.
abbrev pub AreNarrowed : Database → Request → HeadBounds → List ℕ → ℕ → ℕ → Type 0
AreNarrowed d q head ranks rank v =
    (u step : ℕ) → LeadsBack d q v u step
    → (rank_at ranks u ≤ rank + step) ⊎ (head.most < rank + step + head_bound head u)

-- The router with the index `v` needs no look: it was looked at, or each way from the head-end over
-- this router has a greater rank than `head.most`.
abbrev pub NeedsNoLook : Database → Request → HeadBounds → List ℕ → ℕ → Type 0
NeedsNoLook d q head ranks v =
    AreNarrowed d q head ranks (rank_at ranks v) v ⊎ (head.most < rank_at ranks v + head_bound head v)

-- Each router needs no look.
abbrev pub NoneNeedsLook : Database → Request → HeadBounds → List ℕ → Type 0
NoneNeedsLook d q head ranks = (v : ℕ) → v < MOST_ROUTERS → NeedsNoLook d q head ranks v

-- The router with the index `v` waits to be looked at.
abbrev pub IsToDo : Corridor → ℕ → Type 0
IsToDo corridor v = Contains corridor.todo.items v

-- Each router needs no look, or waits.
abbrev pub IsCorridor : Database → Request → HeadBounds → Corridor → Type 0
IsCorridor d q head corridor =
    (v : ℕ) → v < MOST_ROUTERS → NeedsNoLook d q head corridor.near.items v ⊎ IsToDo corridor v

-- The ranks of the corridor fall.
abbrev pub CorridorFalls : Corridor → Corridor → Type 0
CorridorFalls old new = RanksFall old.near.items new.near.items (IsToDo old) (IsToDo new)

-- The search has looked at the link at the index `reverse` of the table's links, which begins at
-- the router with the index `place`.
abbrev pub IsLinkNarrowed : Database → Request → HeadBounds → ℕ → ℕ → ℕ → ℕ → List ℕ → Type 0
IsLinkNarrowed d q head rank goal place reverse ranks =
    (l : Link) → slice_get (links_of d) reverse ≡ Some l → reverse ≢ NO_LINK → IsAdmitted q l → MayReach d goal place
    → (rank_at ranks place ≤ rank + link_step l) ⊎ (head.most < rank + link_step l + head_bound head place)
