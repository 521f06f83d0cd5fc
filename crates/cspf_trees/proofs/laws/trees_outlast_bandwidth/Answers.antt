use Rattle.cspf_trees.proofs.OutlastingTrees.{trees_outlast}
use Rattle.cspf_trees.proofs.laws.trees_outlast_bandwidth.Goals as goal

pub returns : goal.returns
returns c = trees_outlast c.shapes_tell_routers.ensures
