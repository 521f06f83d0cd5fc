use Rattle.std.proofs.Common.{◌≡◌, ◌≤◌, map, take, slice_index_or, vec_len}
use Rattle.std.specs.Vec.{vec_capacity}
use Rattle.cspf_model.specs.declared.batch.Change.{Change}
use Rattle.cspf_columns.proofs.merging.copy_changes.Given as goal

abbrev pub invariant-loop-place : goal.invariant-loop-place
invariant-loop-place l = record {
  each : (d : Change) → l.sorted.items ≡ map (λ place. slice_index_or l.changes place.1 d) (take l.place-index l.order);
  len : vec_len l.sorted ≡ l.place-index;
  capacity : vec_capacity l.fn.sorted ≤ vec_capacity l.sorted;
}
