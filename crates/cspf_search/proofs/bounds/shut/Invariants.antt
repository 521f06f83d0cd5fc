use Rattle.std.proofs.Common.{◌≡◌, ℕ, ◌<◌, ◌≤◌}
use Rattle.cspf_search.specs.Bounds.{bound_at}
use Rattle.cspf_search.specs.declared.limits.TheConstants.{NO_WAY}
use Rattle.cspf_search.proofs.bounds.shut.Given as goal

abbrev pub invariant-loop-at : goal.invariant-loop-at
invariant-loop-at l = record {
  before : (i : ℕ) → i < l.at → bound_at l.bounds i ≡ NO_WAY;
  others : (i : ℕ) → l.at ≤ i → bound_at l.bounds i ≡ bound_at l.fn.bounds i;
}
