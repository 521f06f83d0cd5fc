use Rattle.std.proofs.Common.{◌≡◌, length}
use Rattle.cspf_walk.specs.TightWalks.{IsTightWalk}
use Rattle.cspf_walk.proofs.walk.follow.Given as goal

abbrev pub invariant-loop-taken : goal.invariant-loop-taken
invariant-loop-taken g l = record {
  walk : IsTightWalk l.query.table.now l.query.request.now (g.B.LowerBounds.bound_of l.bounds) l.query.from l.links.items l.place;
  many : length l.links.items ≡ l._taken;
}
