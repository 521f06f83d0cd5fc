use Rattle.std.proofs.Common.{◌≡◌}
use Rattle.cspf_model.specs.Walks.{IsWalk, end_of}
use Rattle.cspf_disjoint.proofs.ways.way_along.Given as goal

abbrev pub invariant-loop-row : goal.invariant-loop-row
invariant-loop-row l = record {
  walk : IsWalk l.table l.request l.way.items;
  end : l.at ≡ end_of l.request.from l.way.items;
}
