use Rattle.std.proofs.Common.{◌≡◌, ◌++◌, List, vec_len}
use Rattle.std.specs.Vec.Iter.{into_iter_items}
use Rattle.cspf_work.specs.declared.worker.Reply.{Reply}
use Rattle.cspf_work.specs.Collected.{AreFilled}
use Rattle.cspf_work.proofs.collecting.put_list.Given as goal

abbrev pub invariant-loop-reply : goal.invariant-loop-reply
invariant-loop-reply l = record {
  left : l.yielded ++ into_iter_items l.reply-iterator ≡ l.fn.list.items;
  count : vec_len l.slots ≡ vec_len l.fn.slots;
  filled : (done : List Reply) → AreFilled l.fn.slots.items done → AreFilled l.slots.items (done ++ l.yielded);
}
