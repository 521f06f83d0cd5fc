use Rattle.std.proofs.Common.{◌≡◌, ◌+◌, ◌<◌, ◌&&◌, ℕ, cond, length, nat_le, nat_lt, slice_index}
use Rattle.cspf_book.proofs.counts.lowered.Given as goal

abbrev pub invariant-loop-priority : goal.invariant-loop-priority
invariant-loop-priority l = record {
  eight : length l.sums ≡ 8;
  sums :
      (p : ℕ) → p < 8
      → slice_index l.initial.sums p ≡ slice_index l.sums p + cond (nat_le l.hold p && nat_lt p l.priority) l.bandwidth 0;
}
