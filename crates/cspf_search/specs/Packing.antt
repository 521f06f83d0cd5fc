-- Private: the rank by which a tree has a cost and a number of links.
use Rattle.std.specs.Prelude.{ℕ, ◌+◌, ◌*◌, min, nat_lt, if◌then◌else◌}
use Rattle.cspf_search.specs.declared.limits.TheConstants.{MOST_COUNTED_LINKS}
use Rattle.cspf_walk.specs.declared.limits.TheConstants.{COST_WEIGHT}

-- The rank by which a tree has a router's cost and number of links: the lesser of the cost and the
-- edge, times `COST_WEIGHT`, plus the number of links. This number counts only if the cost is below
-- the edge, which is the least cost of the routers that the search hasn't settled.
abbrev pub packed_rank : ℕ → ℕ → ℕ → ℕ
packed_rank near links edge = min near edge * COST_WEIGHT + (if nat_lt near edge then min links MOST_COUNTED_LINKS else 0)
