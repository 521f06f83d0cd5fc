use Rattle.std.proofs.Common.{◌≡◌}
use Rattle.cspf_trees.specs.LegsInTurn.{IsLeastSoFar}
use Rattle.cspf_trees.specs.Trees.{AreTreesOf}
use Rattle.cspf_trees.proofs.legs.best_by_legs.Given as goal

abbrev pub invariant-loop-leg : goal.invariant-loop-leg
invariant-loop-leg l = record {
  trees : AreTreesOf l.table l.trees;
  most : l.trees.most ≡ l.fn.trees.most;
  least : IsLeastSoFar l.table l.request l.leg l.walk.at l.walk.links.items;
}
