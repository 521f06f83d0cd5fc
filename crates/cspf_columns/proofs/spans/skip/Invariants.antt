use Rattle.std.proofs.Common.{◌≡◌, ℕ, ◌-◌, ◌<◌, ◌≤◌, length, slice_index_or}
use Rattle.cspf_model.specs.declared.link.Link.{Link}
use Rattle.cspf_columns.proofs.spans.skip.Given as goal

abbrev pub invariant-loop-at : goal.invariant-loop-at
invariant-loop-at l = record {
  order : l.first ≤ l.at;
  bound : l.at ≤ length l.rows;
  run : (k : ℕ) (d : Link) → l.first ≤ k → k < l.at → (slice_index_or l.rows k d).from ≡ l.router;
}

abbrev pub decreases-loop-at : goal.decreases-loop-at
decreases-loop-at l = length l.rows - l.at
