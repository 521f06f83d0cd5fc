use Rattle.std.proofs.Common.{◌≡◌, ℕ, ◌<◌, ◌≤◌, slice_index_or, vec_len}
use Rattle.std.specs.Vec.{vec_capacity}
use Rattle.cspf_model.specs.declared.link.Link.{Link}
use Rattle.cspf_columns.specs.Reverses.{IsIndexOfReverse, no_key}
use Rattle.cspf_columns.proofs.reverses.list_reverses.Given as goal

abbrev pub invariant-loop-at : goal.invariant-loop-at
invariant-loop-at l = record {
  each : (at : ℕ) (d : Link) → at < vec_len l.reverses → IsIndexOfReverse no_key l.rows (slice_index_or l.rows at d) (slice_index_or l.reverses.items at 0);
  len : vec_len l.reverses ≡ l.at;
  capacity : vec_capacity l.fn.reverses ≤ vec_capacity l.reverses;
}
