use Rattle.cspf_search.specs.Bounds.{IsLower, IsRing}
use Rattle.cspf_search.proofs.bounds.grow.Given as goal

abbrev pub invariant-loop-taken : goal.invariant-loop-taken
invariant-loop-taken l = record { ring : IsRing l.query.table.now l.query.request.now l.leg_index l.ring; lower : IsLower l.fn.ring l.ring }
