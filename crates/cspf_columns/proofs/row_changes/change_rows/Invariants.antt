use Rattle.std.proofs.Common.{◌≡◌, ◌≤◌, ◌+◌, All, drop, length}
use Rattle.cspf_model.specs.Lemmas.LinkChanges.{all_relinked}
use Rattle.cspf_model.specs.Lemmas.LinkRows.{database_of}
use Rattle.cspf_model.specs.Lemmas.CountedEnds.{HasListedEnds}
use Rattle.cspf_columns.specs.Rows.{ArePaired}
use Rattle.cspf_columns.proofs.row_changes.change_rows.Given as goal

abbrev pub invariant-loop-change : goal.invariant-loop-change
invariant-loop-change l = record {
  left : all_relinked (database_of l.columns.rows.items) (drop l.change-index l.changes) ≡ all_relinked (database_of l.fn.columns.rows.items) l.changes;
  paired : ArePaired l.columns;
  longer : length l.columns.rows.items ≤ length l.fn.columns.rows.items + l.change-index;
  known : All (HasListedEnds l.columns.routers.items) l.changes;
}
