use Rattle.cspf_search.specs.TreeSteps.{IsTreeLower, IsTreeRing}
use Rattle.cspf_search.proofs.tree_steps.settle.Given as goal

abbrev pub invariant-loop-taken : goal.invariant-loop-taken
invariant-loop-taken l = record { ring : IsTreeRing l.table l.any l.ring; lower : IsTreeLower l.fn.ring l.ring }
