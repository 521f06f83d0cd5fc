use Rattle.std.proofs.Common.{◌≡◌, ◌≤◌, drop}
use Rattle.std.specs.Vec.{vec_capacity}
use Rattle.cspf_columns.specs.AlikeChanges.{RunAlike}
use Rattle.cspf_model.specs.Lemmas.LinkChanges.{all_relinked}
use Rattle.cspf_model.specs.Lemmas.LinkRows.{database_of, AreByKey}
use Rattle.cspf_columns.proofs.overwriting.write_all.Given as goal

abbrev pub invariant-loop-change : goal.invariant-loop-change
invariant-loop-change l = record {
  left : all_relinked (database_of l.rows.items) (drop l.change-index l.changes) ≡ all_relinked (database_of l.fn.rows.items) l.changes;
  by_key : AreByKey l.rows.items;
  alike : RunAlike l.fn.rows.items l.rows.items;
  capacity : vec_capacity l.fn.rows ≤ vec_capacity l.rows;
}
