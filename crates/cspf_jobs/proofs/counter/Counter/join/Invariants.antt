use Rattle.std.proofs.Common.{◌≡◌, ◌+◌, ◌*◌, ◌++◌, All, [], length, flat_map}
use Rattle.std.specs.List.Sorted.{IsStrictlyIncreasing}
use Rattle.std.specs.Vec.Iter.{into_iter_items}
use Rattle.cspf_jobs.proofs.counter.Counter.join.Given as goal

abbrev pub invariant-loop-drawer : goal.invariant-loop-drawer
invariant-loop-drawer l = record {
  left : l.yielded ++ into_iter_items l.drawer-iterator ≡ l.fn.drawers.items;
  home : l.seat.table_id ≡ l.fn.first.counter.table;
  slots : l.seat.me.1 ≡ [];
  drawn : l.seat.me.0.drawn ≡ flat_map (λ d. d.drawn) l.yielded;
  rising : All (λ d. IsStrictlyIncreasing d.drawn) l.yielded;
  draws : length l.seat.me.0.drawn + l.seat.me.0.left ≡ (l.fn.first.counter.requests + 1) * (l.fn.first.shares + length l.yielded);
}
