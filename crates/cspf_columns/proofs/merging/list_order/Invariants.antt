use Rattle.std.proofs.Common.{◌≡◌, ◌≤◌, All, map, take, slice_index_or, vec_len}
use Rattle.std.specs.Vec.{vec_capacity}
use Rattle.cspf_model.specs.declared.batch.Change.{Change}
use Rattle.cspf_columns.specs.MergeSteps.{IsPlaceOfChange}
use Rattle.cspf_columns.proofs.merging.list_order.Given as goal

abbrev pub invariant-loop-at : goal.invariant-loop-at
invariant-loop-at l = record {
  places : All (IsPlaceOfChange l.changes) l.order.items;
  each : (d : Change) → map (λ place. slice_index_or l.changes place.1 d) l.order.items ≡ take l.at l.changes;
  len : vec_len l.order ≡ l.at;
  capacity : vec_capacity l.fn.order ≤ vec_capacity l.order;
}
