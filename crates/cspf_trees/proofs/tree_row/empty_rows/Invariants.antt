use Rattle.std.proofs.Common.{◌≡◌, length, All}
use Rattle.cspf_trees.specs.TreeRows.{IsEmptyTreeRow, tree_count}
use Rattle.cspf_trees.proofs.tree_row.empty_rows.Given as goal

abbrev pub invariant-loop : goal.invariant-loop
invariant-loop l = record { many : length l.rows.items ≡ l.counter; empty : All IsEmptyTreeRow l.rows.items; none : tree_count l.rows.items ≡ 0 }
