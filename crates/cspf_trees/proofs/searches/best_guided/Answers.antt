use Rattle.cspf_search.proofs.Trees.{bounds_of_tree}
use Rattle.cspf_trees.proofs.searches.best_guided.Goals as goal

pub best_by_bounds-requires : goal.best_by_bounds-requires
best_by_bounds-requires c = bounds_of_tree c.args.table.now c.args.request.now c.args.tree.now c.requires
