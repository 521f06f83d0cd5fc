use Rattle.std.proofs.Common.{◌≡◌, ◌++◌, map, vec_len}
use Rattle.std.specs.Vec.Iter.{into_iter_items}
use Rattle.cspf_work.specs.Working.{indexes}
use Rattle.cspf_work.specs.Collected.{AreFilled}
use Rattle.cspf_work.proofs.Filling.{replies}
use Rattle.cspf_work.proofs.collecting.collect.Given as goal

abbrev pub invariant-loop-list : goal.invariant-loop-list
invariant-loop-list l = record {
  left : l.yielded ++ into_iter_items l.list-iterator ≡ l.fn.lists.items;
  count : vec_len l.slots ≡ l.fn.count;
  filled : AreFilled l.slots.items (replies l.yielded);
  drawn : map (λ v. v.items) l.drawn.items ≡ map (λ v. indexes v.items) l.yielded;
}
