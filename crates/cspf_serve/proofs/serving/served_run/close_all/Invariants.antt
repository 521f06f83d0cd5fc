use Rattle.std.proofs.Common.{◌≡◌, ◌≤◌, ◌++◌, vec_len, vec_capacity}
use Rattle.std.specs.List.{AllZip}
use Rattle.std.specs.Vec.Iter.{into_iter_items}
use Rattle.cspf_serve.specs.ServedSteps.{IsServedEnd}
use Rattle.cspf_serve.proofs.serving.served_run.close_all.Given as goal

abbrev pub invariant-loop-client : goal.invariant-loop-client
invariant-loop-client g l = record {
  left : l.yielded ++ into_iter_items l.client-iterator ≡ l.fn.serving.items;
  same : l.counted ≡ l.fn.counted;
  closed : AllZip (IsServedEnd l.fn.counted.publisher.batches) l.yielded l.served.items;
  room : vec_len l.fn.serving ≤ vec_capacity l.served;
}
