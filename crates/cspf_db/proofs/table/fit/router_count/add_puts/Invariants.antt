use Rattle.std.proofs.Common.{◌≡◌, ◌≤◌, drop}
use Rattle.std.specs.FinSet as set
use Rattle.cspf_model.specs.Lemmas.RowsLeft.{links_put}
use Rattle.cspf_model.specs.Lemmas.CountedEnds.{with_ends}
use Rattle.cspf_db.proofs.table.fit.router_count.add_puts.Given as goal

abbrev pub invariant-loop-change : goal.invariant-loop-change
invariant-loop-change l = record {
  left : with_ends l.routers (links_put (drop l.change-index l.changes)) ≡ with_ends l.fn.routers (links_put l.changes);
  few : set.len l.routers ≤ 1024;
}
