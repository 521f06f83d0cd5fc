use Rattle.cspf_walk.specs.TightWalks.{AreSlack}
use Rattle.cspf_walk.proofs.walk.tight_from.Given as goal

abbrev pub invariant-loop-row : goal.invariant-loop-row
invariant-loop-row g l = AreSlack l.query.table.now l.query.request.now (g.B.LowerBounds.bound_of l.bounds) l.place l.row
