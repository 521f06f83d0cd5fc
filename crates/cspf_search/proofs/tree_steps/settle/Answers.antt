use Rattle.cspf_search.proofs.Trees.{same_tree}
use Rattle.cspf_search.proofs.tree_steps.settle.Goals as goal

pub returns-in_default-clause-ring : goal.returns-in_default-clause-ring
returns-in_default-clause-ring c =
    same_tree c.args.table.now c.args.any.now c.loop-taken.ring c.nearest.new.self c.nearest.ensures.bounds c.nearest.ensures.counts c.nearest.ensures.marks c.loop-taken.invariant.ring

pub take-requires-clause-ring : goal.take-requires-clause-ring
take-requires-clause-ring c =
    same_tree c.args.table.now c.args.any.now c.loop-taken.ring c.nearest.new.self c.nearest.ensures.bounds c.nearest.ensures.counts c.nearest.ensures.marks c.loop-taken.invariant.ring
