use Rattle.std.proofs.Common.{rules}
use Rattle.cspf_trees.specs.Trees.{AreTreesOf}
use Rattle.cspf_trees.proofs.trees.Trees.with_growth.Goals as goal

pub returns-clause-trees : goal.returns-clause-trees
unfolding AreTreesOf
returns-clause-trees c = λ d. (search rules, c.new-3.ensures d)
