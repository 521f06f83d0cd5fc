use Rattle.std.proofs.Common.{◌≡◌, ◌⊎◌, ◌+◌, ℕ, Contains, length, take}
use Rattle.cspf_search.specs.Bounds.{bound_at}
use Rattle.cspf_search.specs.declared.limits.TheConstants.{NO_WAY}
use Rattle.cspf_search.proofs.bounds.shut_at.Given as goal

abbrev pub invariant-loop-place : goal.invariant-loop-place
invariant-loop-place l = record {
  many : length l.bounds ≡ length l.fn.bounds;
  shut : (p : ℕ) → Contains (take l.place-index l.places) p → bound_at l.bounds (l.first + p) ≡ NO_WAY;
  others : (i : ℕ) → (bound_at l.bounds i ≡ bound_at l.fn.bounds i) ⊎ ((p : ℕ) × Contains (take l.place-index l.places) p × (i ≡ l.first + p));
}
