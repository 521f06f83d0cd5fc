use Rattle.std.proofs.Common.{◌≡◌, sum_by, take}
use Rattle.cspf_db.specs.Index.{router_list}
use Rattle.cspf_pair.specs.Potentials.{router_excess}
use Rattle.cspf_disjoint.specs.Potentials.{potentials_of}
use Rattle.cspf_disjoint.specs.Weights.{weights_of}
use Rattle.cspf_disjoint.proofs.excess.excess_of_routers.Given as goal

abbrev pub invariant-loop-place : goal.invariant-loop-place
invariant-loop-place l = record {
  sum : l.total ≡ sum_by (router_excess (potentials_of l.table l.lists) (weights_of l.rule)) (take l.place (router_list l.table));
}
