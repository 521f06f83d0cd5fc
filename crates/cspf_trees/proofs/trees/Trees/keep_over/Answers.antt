use Rattle.cspf_trees.proofs.OutlastingTrees.{trees_kept}
use Rattle.cspf_trees.proofs.trees.Trees.keep_over.Goals as goal

pub returns-then-not-changes_shape-clause-trees : goal.returns-then-not-changes_shape-clause-trees
returns-then-not-changes_shape-clause-trees c = trees_kept c.args.table.now _ c.args.self.now c.trees_outlast_bandwidth.ensures (c.changes_shape.ensures.kept c.if-not-changes_shape.true) c.requires
