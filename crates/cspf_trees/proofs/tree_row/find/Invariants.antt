use Rattle.std.proofs.Common.{◌<◌, length}
use Rattle.cspf_trees.proofs.tree_row.find.Given as goal

abbrev pub invariant-loop-at : goal.invariant-loop-at
invariant-loop-at l = l.found < length l.rows
