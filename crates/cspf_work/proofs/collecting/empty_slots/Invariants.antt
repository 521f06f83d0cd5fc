use Rattle.std.proofs.Common.{◌≡◌, None, All, vec_len}
use Rattle.cspf_work.proofs.collecting.empty_slots.Given as goal

abbrev pub invariant-loop : goal.invariant-loop
invariant-loop l = record {
  count : vec_len l.slots ≡ l.counter;
  none : All (λ slot. slot ≡ None) l.slots.items;
}
