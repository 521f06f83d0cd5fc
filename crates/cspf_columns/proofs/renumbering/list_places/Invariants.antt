use Rattle.std.proofs.Common.{◌≡◌, ℕ, ◌<◌, ◌≤◌, slice_index, vec_len}
use Rattle.std.specs.Vec.{vec_capacity}
use Rattle.cspf_columns.specs.Rows.{IsPlaceOf}
use Rattle.cspf_columns.proofs.renumbering.list_places.Given as goal

abbrev pub invariant-loop-router : goal.invariant-loop-router
invariant-loop-router l = record {
  each : (k : ℕ) → k < vec_len l.places → IsPlaceOf l.others (slice_index l.routers k) (slice_index l.places.items k);
  len : vec_len l.places ≡ l.router-index;
  capacity : vec_capacity l.fn.places ≤ vec_capacity l.places;
}
