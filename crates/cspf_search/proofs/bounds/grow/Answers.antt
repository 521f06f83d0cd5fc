use Rattle.cspf_search.proofs.LegBounds.{same_ring}
use Rattle.cspf_search.proofs.bounds.grow.Goals as goal

pub returns-in_default-clause-ring : goal.returns-in_default-clause-ring
returns-in_default-clause-ring c =
    same_ring c.args.query.table.now c.args.query.request.now c.args.leg_index c.loop-taken.ring c.nearest.new.self c.nearest.ensures.bounds c.nearest.ensures.marks c.loop-taken.invariant.ring

pub returns-then-index-top-clause-ring : goal.returns-then-index-top-clause-ring
returns-then-index-top-clause-ring c =
    same_ring c.args.query.table.now c.args.query.request.now c.args.leg_index c.loop-taken.ring c.nearest.new.self c.nearest.ensures.bounds c.nearest.ensures.marks c.loop-taken.invariant.ring

pub take-requires-clause-ring : goal.take-requires-clause-ring
take-requires-clause-ring c =
    same_ring c.args.query.table.now c.args.query.request.now c.args.leg_index c.loop-taken.ring c.nearest.new.self c.nearest.ensures.bounds c.nearest.ensures.marks c.loop-taken.invariant.ring
