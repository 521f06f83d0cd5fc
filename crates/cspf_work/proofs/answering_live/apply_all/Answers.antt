use Rattle.std.proofs.Common.{rules, length, refl}
use Rattle.std.proofs.lemmas.Option.{slice_get_read}
use Rattle.cspf_work.proofs.Applying.{applied_refused, applied_all}
use Rattle.cspf_work.proofs.answering_live.apply_all.Goals as goal

pub returns-in-Err : goal.returns-in-Err
returns-in-Err g c =
    applied_refused g.W.Write.contents c.args.publisher.now c.loop-batch.publisher c.apply.new.self c.args.batches.now c.loop-batch.applied c.loop-batch.batch-index c.batch-item.result c.in-Err.fault
    c.loop-batch.invariant.count (search rules)
    (slice_get_read c.args.batches.now (length c.args.batches.now) c.loop-batch.batch-index c.batch-item.result refl (search rules) c.batch-item.is)
    c.apply.ensures.source (search rules) c.in-Err.ensures.why c.loop-batch.invariant.applied

pub returns : goal.returns
returns g c =
    applied_all g.W.Write.contents c.args.publisher.now c.loop-batch.publisher c.args.batches.now c.loop-batch.applied c.loop-batch.batch-index
    c.loop-batch.invariant.count (search rules) c.loop-batch.invariant.applied
