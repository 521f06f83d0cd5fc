use Rattle.std.proofs.Common.{ap}
use Rattle.cspf_trees.specs.TreeTables.{TreeTableState}
use Rattle.cspf_trees.proofs.tree_table.TreeTable.best.Goals as goal

pub returns-clause-best : goal.returns-clause-best
returns-clause-best c = rw (ap (λ (s : TreeTableState). s.database) c.self.view_is) at c.best.ensures.best
