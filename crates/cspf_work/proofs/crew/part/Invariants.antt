use Rattle.std.proofs.Common.{◌≡◌, ◌≤◌, ◌++◌, map, All, IfSome, IsNone, vec_len, vec_capacity}
use Rattle.std.specs.Vec.Iter.{into_iter_items}
use Rattle.cspf_work.specs.Served.{IsFaultOfWorker}
use Rattle.cspf_work.specs.Working.{first_fault}
use Rattle.cspf_work.proofs.crew.part.Given as goal

abbrev pub invariant-loop-worker : goal.invariant-loop-worker
invariant-loop-worker l = record {
  left : l.yielded ++ into_iter_items l.worker-iterator ≡ l.fn.workers.items;
  askers : l.askers.items ≡ map (λ w. w.asker) l.yielded;
  drawers : l.drawers.items ≡ map (λ w. w.drawer) l.yielded;
  lists : l.lists.items ≡ map (λ w. w.done) l.yielded;
  fault : IfSome l.first IsFaultOfWorker;
  none : IsNone l.first → All (λ w. IsNone w.fault) l.yielded;
  first : l.first ≡ first_fault l.yielded;
  askers_room : vec_len l.fn.workers ≤ vec_capacity l.askers;
  drawers_room : vec_len l.fn.workers ≤ vec_capacity l.drawers;
  lists_room : vec_len l.fn.workers ≤ vec_capacity l.lists;
}
