use Rattle.std.proofs.Common.{◌≡◌, ◌≤◌, true, All, take}
use Rattle.std.specs.FinSet as set
use Rattle.cspf_db.proofs.table.fit.router_count.add_routers.Given as goal

abbrev pub invariant-loop-router : goal.invariant-loop-router
invariant-loop-router l = record {
  added : All (λ r. set.contains l.routers r ≡ true) (take l.router-index l.list);
  few : set.len l.routers ≤ 1024;
}
