use Rattle.std.proofs.Common.{◌≡◌, ◌+◌, ◌≤◌, ◌++◌, length, map, All, vec_len, vec_capacity}
use Rattle.std.specs.Vec.Iter.{into_iter_items}
use Rattle.cspf_work.specs.Working.{IsIdle}
use Rattle.cspf_work.proofs.crew.workers_of.Given as goal

abbrev pub invariant-loop-asker : goal.invariant-loop-asker
invariant-loop-asker l = record {
  left : l.yielded ++ into_iter_items l.asker-iterator ≡ l.fn.askers.items;
  workers : map (λ w. w.asker) l.workers.items ≡ l.yielded;
  idle : All (IsIdle l.counter) l.workers.items;
  counter : l.first.counter ≡ l.counter;
  shares : l.first.shares + length l.yielded ≡ l.fn.first.shares;
  room : vec_len l.fn.askers ≤ vec_capacity l.workers;
}
