use Rattle.std.proofs.Common.{◌≡◌, ℕ, ◌<◌, ◌≤◌, false, slice_index_or}
use Rattle.cspf_search.specs.Bounds.{bound_at}
use Rattle.cspf_search.proofs.ring_edge.least_open.Given as goal

abbrev pub invariant-loop-place : goal.invariant-loop-place
invariant-loop-place l = (w : ℕ) → w < l.place → slice_index_or l.done w false ≡ false → l.least ≤ bound_at l.near w
