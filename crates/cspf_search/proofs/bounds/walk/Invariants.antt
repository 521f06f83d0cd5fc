use Rattle.std.proofs.Common.{ℕ, ◌<◌, slice_index}
use Rattle.cspf_search.specs.Bounds.{Falls, IsPassed}
use Rattle.cspf_search.proofs.bounds.walk.Given as goal

abbrev pub invariant-loop-row : goal.invariant-loop-row
invariant-loop-row l = record {
  falls : Falls l.fn.ring l.ring;
  passed : (k : ℕ) → k < l.row → IsPassed l.query.table.now l.query.request.now l.base l.ring (slice_index l.ends k) (slice_index l.reverses k);
}
