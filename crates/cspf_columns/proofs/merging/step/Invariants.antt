use Rattle.std.proofs.Common.{◌≡◌, ◌-◌, ◌≤◌, length}
use Rattle.std.specs.List.{AllWithin}
use Rattle.std.specs.declared.cmp.Ordering.TheVariants.{Less}
use Rattle.cspf_model.specs.Database.{key_of, key_cmp}
use Rattle.cspf_columns.proofs.merging.step.Given as goal

abbrev pub invariant-loop-next : goal.invariant-loop-next
invariant-loop-next l = record {
  order : l.at ≤ l.next;
  bound : l.next ≤ length l.rows;
  below : AllWithin (λ m. key_cmp (key_of m) (l.from, l.local) ≡ Less) l.rows l.at l.next;
}

abbrev pub decreases-loop-next : goal.decreases-loop-next
decreases-loop-next l = length l.rows - l.next
