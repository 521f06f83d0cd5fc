use Rattle.std.proofs.Common.{◌≡◌, ℕ, ◌<◌, ◌≤◌, length, slice_index, slice_index_or, vec_len}
use Rattle.std.specs.Vec.{vec_capacity}
use Rattle.cspf_columns.specs.declared.spans.Span.{Span}
use Rattle.cspf_columns.specs.Rows.{IsSpanOf}
use Rattle.cspf_columns.proofs.spans.list_spans.Given as goal

abbrev pub invariant-loop-index : goal.invariant-loop-index
invariant-loop-index l = record {
  each : (k : ℕ) (d : Span) → k < l.index → IsSpanOf l.rows (slice_index l.routers k) (slice_index_or l.spans.items k d);
  len : vec_len l.spans ≡ length l.routers;
  bound : l.at ≤ length l.rows;
  capacity : vec_capacity l.fn.spans ≤ vec_capacity l.spans;
}
