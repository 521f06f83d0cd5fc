use Rattle.std.proofs.Common.{take}
use Rattle.cspf_db.specs.Index.{links_of}
use Rattle.cspf_disjoint.specs.Excess.{BoundsExcessAmong}
use Rattle.cspf_disjoint.specs.Potentials.{potentials_of}
use Rattle.cspf_disjoint.specs.Weights.{weights_of}
use Rattle.cspf_disjoint.proofs.excess.excess_of_links.Given as goal

abbrev pub invariant-loop-row : goal.invariant-loop-row
invariant-loop-row l = record {
  among : BoundsExcessAmong l.table l.request (potentials_of l.table l.lists) (weights_of l.rule) (take l.row (links_of l.table)) l.total;
}
