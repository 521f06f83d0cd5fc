use Rattle.std.proofs.Common.{◌≡◌, ℕ, ◌<◌, ◌≤◌, filter, take, length, slice_index, vec_len}
use Rattle.std.specs.Vec.{vec_capacity}
use Rattle.cspf_model.specs.Lemmas.CountedEnds.{is_end_of}
use Rattle.cspf_columns.proofs.renumbering.keep_ends.Given as goal

abbrev pub invariant-loop-at : goal.invariant-loop-at
invariant-loop-at l = record {
  kept : l.kept.items ≡ filter (is_end_of l.rows) (take l.at l.routers);
  placed : (k : ℕ) → k < vec_len l.places → slice_index l.places.items k ≡ length (filter (is_end_of l.rows) (take k l.routers));
  len : vec_len l.places ≡ l.at;
  few : vec_len l.kept ≤ l.at;
  capacity : vec_capacity l.fn.kept ≤ vec_capacity l.kept;
  capacity_of_places : vec_capacity l.fn.places ≤ vec_capacity l.places;
}
