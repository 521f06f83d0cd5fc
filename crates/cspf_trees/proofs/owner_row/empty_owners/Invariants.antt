use Rattle.std.proofs.Common.{◌≡◌, length, All}
use Rattle.cspf_trees.specs.OwnerRows.{IsEmptyOwnerRow}
use Rattle.cspf_trees.proofs.owner_row.empty_owners.Given as goal

abbrev pub invariant-loop : goal.invariant-loop
invariant-loop l = record { many : length l.rows.items ≡ l.counter; empty : All IsEmptyOwnerRow l.rows.items }
