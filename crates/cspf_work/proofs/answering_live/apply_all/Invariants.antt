use Rattle.std.proofs.Common.{◌≡◌, take}
use Rattle.cspf_work.specs.Applied.{AreApplied}
use Rattle.cspf_work.proofs.answering_live.apply_all.Given as goal

abbrev pub invariant-loop-batch : goal.invariant-loop-batch
invariant-loop-batch g l = record {
  count : l.applied ≡ l.batch-index;
  applied : AreApplied g.W.Write.contents l.fn.publisher l.publisher (take l.batch-index l.batches);
}
