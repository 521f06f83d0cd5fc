use Rattle.std.proofs.Common.{ℕ, ◌<◌, slice_index}
use Rattle.cspf_search.specs.TreeSteps.{IsLinkPassed, TreeFalls}
use Rattle.cspf_search.proofs.tree_steps.walk.Given as goal

abbrev pub invariant-loop-row : goal.invariant-loop-row
invariant-loop-row l = record {
  falls : TreeFalls l.fn.ring l.ring;
  passed : (k : ℕ) → k < l.row → IsLinkPassed l.table l.any l.base l.count l.ring (slice_index l.ends k) (slice_index l.reverses k);
}
