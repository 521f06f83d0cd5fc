use Rattle.std.proofs.Common.{◌≡◌, ◌≤◌, drop}
use Rattle.std.specs.FinSet as set
use Rattle.cspf_model.specs.Lemmas.RowsLeft.{rows_untouched}
use Rattle.cspf_model.specs.Lemmas.CountedEnds.{with_ends}
use Rattle.cspf_db.proofs.table.fit.router_count.add_rows.Given as goal

abbrev pub invariant-loop-row : goal.invariant-loop-row
invariant-loop-row l = record {
  left : with_ends l.routers (rows_untouched (drop l.row-index l.rows) l.changes) ≡ with_ends l.fn.routers (rows_untouched l.rows l.changes);
  few : set.len l.routers ≤ 1024;
}
