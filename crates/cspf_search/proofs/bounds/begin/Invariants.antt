use Rattle.std.proofs.Common.{◌≡◌, ◌≤◌, ℕ, ◌+◌, Contains, take, IsTrue, false, slice_index_or}
use Rattle.cspf_search.specs.Bounds.{bound_at, is_done}
use Rattle.cspf_graph.specs.RoleSteps.{nothing}
use Rattle.cspf_search.proofs.bounds.begin.Given as goal

abbrev pub invariant-loop-place : goal.invariant-loop-place
invariant-loop-place l = record {
  none : (w : ℕ) → is_done l.ring w ≡ false;
  targets : (p : ℕ) → Contains (take l.place-index l.place-items) p → IsTrue (slice_index_or l.query.roles.now (l.first + p) nothing).target → bound_at l.ring.near.items p ≤ bound_at l.ahead p;
}
