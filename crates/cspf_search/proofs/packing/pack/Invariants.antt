use Rattle.std.proofs.Common.{◌≡◌, ℕ, ◌<◌, length}
use Rattle.std.specs.List.{All}
use Rattle.cspf_search.specs.Bounds.{bound_at}
use Rattle.cspf_search.specs.Packing.{packed_rank}
use Rattle.cspf_search.proofs.packing.pack.Given as goal

abbrev pub invariant-loop-place : goal.invariant-loop-place
invariant-loop-place l = record {
  many : length l.ranks.items ≡ l.place;
  small : All (λ rank. rank < 4398046511104) l.ranks.items;
  each : (p : ℕ) → p < l.place → bound_at l.ranks.items p ≡ packed_rank (bound_at l.near p) (bound_at l.links p) l.edge;
}
