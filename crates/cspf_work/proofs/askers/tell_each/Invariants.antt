use Rattle.std.proofs.Common.{◌≡◌, ℕ, ◌<◌, length, get_or, vec_len}
use Rattle.cspf_publish.specs.Histories.{BeginsWith}
use Rattle.cspf_publish.specs.AskerStates.{AskerState}
use Rattle.cspf_work.specs.Served.{KnowsNoLess}
use Rattle.cspf_work.proofs.askers.tell_each.Given as goal

abbrev pub invariant-loop-index : goal.invariant-loop-index
invariant-loop-index g l = record {
  same : l.publisher ≡ l.fn.publisher;
  count : vec_len l.askers ≡ vec_len l.fn.askers;
  each : (i : ℕ) (d : AskerState) → i < length l.fn.askers.items → KnowsNoLess (get_or l.fn.askers.items i d) (get_or l.askers.items i d);
  told : (i : ℕ) (d : AskerState) → i < l.index → BeginsWith (get_or l.askers.items i d).batches l.fn.publisher.batches;
}
