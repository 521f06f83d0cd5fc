use Rattle.std.proofs.Common.{◌≡◌, ℕ, ◌<◌, ◌≤◌, false, not, length, slice_index, slice_index_or, vec_len}
use Rattle.std.specs.Vec.{vec_capacity}
use Rattle.std.specs.FinSet as set
use Rattle.cspf_model.specs.Lemmas.LinkRows.{marks_in}
use Rattle.cspf_db.proofs.table.transits.list_transits.Given as goal

abbrev pub invariant-loop-router : goal.invariant-loop-router
invariant-loop-router l = record {
  each : (k : ℕ) → k < vec_len l.transits → slice_index_or l.transits.items k false ≡ not (set.contains (marks_in l.marks) (slice_index l.routers k));
  len : vec_len l.transits ≡ l.router-index;
  bound : l.next ≤ length l.marks;
  below : (k j : ℕ) → k < l.next → l.router-index ≤ j → j < length l.routers → slice_index l.marks k < slice_index l.routers j;
  capacity : vec_capacity l.fn.transits ≤ vec_capacity l.transits;
}
