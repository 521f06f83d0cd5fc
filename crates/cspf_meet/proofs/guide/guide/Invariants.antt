use Rattle.std.proofs.Common.{◌≤◌}
use Rattle.cspf_meet.specs.Guided.{AreGuided}
use Rattle.cspf_meet.proofs.guide.guide.Given as goal

abbrev pub invariant-loop-turn : goal.invariant-loop-turn
invariant-loop-turn g l = record {
  guided : AreGuided l.query.table.now l.query.request.now (g.B.LowerBounds.bound_of l.bounds) l.guided;
  most : l.guided.most ≤ l.fn.guided.most;
}
