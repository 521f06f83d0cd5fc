use Rattle.std.proofs.Common.{◌≡◌, ◌<◌, ℕ, length, slice_index}
use Rattle.cspf_trees.specs.LegsInTurn.{IsSoleTarget}
use Rattle.cspf_trees.specs.Trees.{AreTreesOf}
use Rattle.cspf_trees.proofs.legs.sole_targets.Given as goal

abbrev pub invariant-loop-hop : goal.invariant-loop-hop
invariant-loop-hop l = record {
  trees : AreTreesOf l.table l.trees;
  most : l.trees.most ≡ l.fn.trees.most;
  number : length l.targets.items ≡ l.hop-index;
  each : (at : ℕ) → at < length l.targets.items → IsSoleTarget l.table l.request at (slice_index l.targets.items at);
}
