use Rattle.std.proofs.Common.{◌≡◌, ◌*◌, ◌≤◌, take}
use Rattle.cspf_model.specs.Walks.{cost_of}
use Rattle.cspf_trees.proofs.leg_walk.cost_along.Given as goal

abbrev pub invariant-loop-link : goal.invariant-loop-link
invariant-loop-link l = record {
  cost : l.cost ≡ cost_of (take l.link-index l.links);
  small : l.cost ≤ l.link-index * 4294967295;
}
