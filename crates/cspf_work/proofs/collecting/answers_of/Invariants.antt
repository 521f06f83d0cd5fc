use Rattle.std.proofs.Common.{◌≡◌, ◌++◌, Some, map}
use Rattle.std.specs.Vec.Iter.{into_iter_items}
use Rattle.cspf_work.proofs.collecting.answers_of.Given as goal

abbrev pub invariant-loop-slot : goal.invariant-loop-slot
invariant-loop-slot l = record {
  left : l.yielded ++ into_iter_items l.slot-iterator ≡ l.fn.slots.items;
  list : map (λ a. Some a) l.list.items ≡ l.yielded;
}
