use Rattle.cspf_trees.specs.Trees.{AreTreesOf}
use Rattle.search_tests.proofs.tests.growth.count_after.Given as goal

abbrev pub invariant-loop-ask : goal.invariant-loop-ask
invariant-loop-ask l = AreTreesOf l.table l.trees
