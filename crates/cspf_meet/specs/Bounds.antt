-- Private: lower bounds of the rank of a way from the head-end, and of a way to the tail-end.
use Rattle.std.specs.Prelude.{ℕ, ◌+◌, ◌-◌, ◌≤◌, min}
use Rattle.cspf_model.specs.declared.request.Request.{Request}
use Rattle.cspf_model.specs.Database.{Database}
use Rattle.cspf_meet.specs.declared.bounds.HeadBounds.{HeadBounds}
use Rattle.cspf_meet.specs.declared.bounds.RankBounds.{RankBounds}
use Rattle.cspf_meet.specs.Labels.{rank_at}
use Rattle.cspf_walk.specs.Ways.{Leads}

-- A lower bound of the rank of a way from the head-end to the router with the index `v`.
abbrev pub head_bound : HeadBounds → ℕ → ℕ
head_bound head v = min (rank_at head.ahead.now v) head.edge

-- A lower bound of the rank of a way from the router with the index `v` to the tail-end.
abbrev pub rank_bound : RankBounds → ℕ → ℕ
rank_bound bounds v = min (rank_at bounds.near.now v) ((bounds.head.most + 1) - head_bound bounds.head v)

-- The bounds from the head-end are consistent: over each link that a route may use, the bound rises
-- by at most the link's step.
abbrev pub AreHeadBounds : Database → Request → HeadBounds → Type 0
AreHeadBounds d q head = (u w step : ℕ) → Leads d q u w step → head_bound head w ≤ head_bound head u + step
