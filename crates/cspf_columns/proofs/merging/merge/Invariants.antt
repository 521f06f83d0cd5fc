use Rattle.std.proofs.Common.{◌≡◌, ◌≤◌, ◌<◌, ◌+◌, ◌-◌, ◌++◌, drop, length, slice_index_or, vec_len}
use Rattle.std.specs.Vec.{vec_capacity}
use Rattle.cspf_model.specs.declared.batch.Change.{Change}
use Rattle.cspf_model.specs.Changes.{key_changed}
use Rattle.cspf_model.specs.Lemmas.LinkChanges.{all_relinked}
use Rattle.cspf_columns.specs.MergeSteps.{EndsBelow}
use Rattle.cspf_model.specs.Lemmas.LinkRows.{database_of, AreByKey}
use Rattle.cspf_columns.specs.Rows.{AreEndsOf}
use Rattle.cspf_columns.proofs.merging.merge.Given as goal

abbrev pub invariant-loop-change : goal.invariant-loop-change
invariant-loop-change l = record {
  bound : l.at ≤ length l.columns.rows.items;
  left : all_relinked (database_of (l.merged.items ++ drop l.at l.columns.rows.items)) (drop l.change-index l.changes) ≡ all_relinked (database_of l.columns.rows.items) l.changes;
  joined : AreByKey (l.merged.items ++ drop l.at l.columns.rows.items);
  below : (d : Change) → l.change-index < length l.changes → EndsBelow l.merged.items (key_changed (slice_index_or l.changes l.change-index d));
  longer : vec_len l.merged + (length l.columns.rows.items - l.at) ≤ length l.columns.rows.items + l.change-index;
  capacity : vec_capacity l.fn.merged ≤ vec_capacity l.merged;
  capacity_of_ends : vec_capacity l.fn.merged_ends ≤ vec_capacity l.merged_ends;
  ends : AreEndsOf l.merged.items l.columns.routers.items l.merged_ends.items;
}
