use Rattle.std.proofs.Common.{◌≤◌, ℕ, ◌+◌, Contains, take, IsTrue, slice_index_or}
use Rattle.cspf_search.specs.declared.limits.TheConstants.{NO_WAY}
use Rattle.cspf_search.specs.Bounds.{bound_at}
use Rattle.cspf_graph.specs.RoleSteps.{nothing}
use Rattle.cspf_search.proofs.bounds.is_dead_end.Given as goal

abbrev pub invariant-loop-place : goal.invariant-loop-place
invariant-loop-place l =
    (p : ℕ) → Contains (take l.place-index l.place-items) p → IsTrue (slice_index_or l.query.roles.now (l.first + p) nothing).target → NO_WAY ≤ bound_at l.ahead p
