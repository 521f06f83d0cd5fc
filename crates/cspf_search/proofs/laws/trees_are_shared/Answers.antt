use Rattle.cspf_search.proofs.Trees.{shared_tree}
use Rattle.cspf_search.proofs.laws.trees_are_shared.Goals as goal

pub returns : goal.returns
returns c = shared_tree
