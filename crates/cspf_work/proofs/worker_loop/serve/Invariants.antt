use Rattle.std.proofs.Common.{◌≡◌, None}
use Rattle.cspf_work.specs.Working.{HasDone, indexes}
use Rattle.cspf_work.proofs.worker_loop.serve.Given as goal

abbrev pub invariant-loop-alloc : goal.invariant-loop-alloc
invariant-loop-alloc g l = record {
  done : HasDone l.requests l.initial.worker.asker l.worker;
  fault : l.worker.fault ≡ None;
  counter : l.worker.drawer.counter ≡ l.initial.worker.drawer.counter;
  drawn : l.worker.drawer.drawn ≡ indexes l.worker.done.items;
}

abbrev pub decreases-loop-alloc : goal.decreases-loop-alloc
decreases-loop-alloc g l = l.worker.drawer.left
