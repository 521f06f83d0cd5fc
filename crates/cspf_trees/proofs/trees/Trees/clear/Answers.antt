use Rattle.std.proofs.Common.{arith, rules}
use Rattle.cspf_trees.specs.Trees.{AreTreesOf}
use Rattle.cspf_trees.proofs.trees.Trees.clear.Goals as goal

pub returns-then-self-lt18446744073709551615-clause-trees : goal.returns-then-self-lt18446744073709551615-clause-trees
unfolding AreTreesOf
returns-then-self-lt18446744073709551615-clause-trees c = λ d. (λ k r h now. absurd (omega (arith, c.args.self.now.past k r h, now)), c.clear.ensures d)

pub returns-else-self-lt18446744073709551615-clause-trees : goal.returns-else-self-lt18446744073709551615-clause-trees
unfolding AreTreesOf
returns-else-self-lt18446744073709551615-clause-trees c = λ d. (search rules, c.clear.ensures d)
