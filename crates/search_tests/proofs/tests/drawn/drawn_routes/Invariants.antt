use Rattle.cspf_trees.specs.Trees.{AreTreesOf}
use Rattle.search_tests.proofs.tests.drawn.drawn_routes.Given as goal

abbrev pub invariant-loop-i : goal.invariant-loop-i
invariant-loop-i l = AreTreesOf l.network.marked l.trees
