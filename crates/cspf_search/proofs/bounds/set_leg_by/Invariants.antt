use Rattle.std.proofs.Common.{◌≡◌, ◌⊎◌, ℕ, ◌+◌, ◌<◌, ◌≤◌}
use Rattle.cspf_search.specs.Bounds.{bound_at}
use Rattle.cspf_search.specs.Trees.{tree_bound}
use Rattle.cspf_search.proofs.bounds.set_leg_by.Given as goal

abbrev pub invariant-loop-place : goal.invariant-loop-place
invariant-loop-place l = record {
  leg : (p : ℕ) → p < l.place → bound_at l.bounds (l.first + p) ≡ tree_bound l.tree p;
  others : (i : ℕ) → (i < l.first) ⊎ (l.first + l.count ≤ i) → bound_at l.bounds i ≡ bound_at l.fn.bounds i;
}
