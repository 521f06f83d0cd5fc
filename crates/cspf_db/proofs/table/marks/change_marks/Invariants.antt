use Rattle.std.proofs.Common.{◌≡◌, ◌+◌, ◌≤◌, drop, vec_len}
use Rattle.std.specs.Vec.{vec_capacity}
use Rattle.cspf_model.specs.Lemmas.MarkChanges.{all_marked}
use Rattle.cspf_model.specs.Lemmas.LinkRows.{marks_in}
use Rattle.cspf_columns.specs.Rows.{AreRising}
use Rattle.cspf_db.proofs.table.marks.change_marks.Given as goal

abbrev pub invariant-loop-change : goal.invariant-loop-change
invariant-loop-change l = record {
  marked : all_marked (marks_in l.marks.items) (drop l.change-index l.changes) ≡ all_marked (marks_in l.fn.marks.items) l.changes;
  rising : AreRising l.marks.items;
  longer : vec_len l.marks ≤ vec_len l.fn.marks + l.change-index;
  capacity : vec_capacity l.fn.marks ≤ vec_capacity l.marks;
}
