use Rattle.cspf_trees.specs.Trees.{AreTreesOf}
use Rattle.search_tests.proofs.tests.shapes.count_agreed.Given as goal

abbrev pub invariant-loop-request : goal.invariant-loop-request
invariant-loop-request l = AreTreesOf l.table l.trees
