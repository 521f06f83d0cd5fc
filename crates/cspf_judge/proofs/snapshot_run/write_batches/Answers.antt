use Rattle.cspf_rows.specs.BatchText.{batch_text}
use Rattle.cspf_judge.proofs.Fronts.{at_error, no_front, front_in_list}
use Rattle.cspf_judge.proofs.snapshot_run.write_batches.Goals as goal

pub returns-in_err-text-clause-front : goal.returns-in_err-text-clause-front
returns-in_err-text-clause-front g c =
    at_error _ c.from_residual.result
    (front_in_list batch_text c.args.batches.now c.loop-batch.batch-index c.batch-item.result _ _ _ _ c.loop-batch-test.true c.batch-item.is c.loop-batch.invariant (no_front _ _))

pub returns-in_err-put-clause-front : goal.returns-in_err-put-clause-front
returns-in_err-put-clause-front g c =
    at_error _ c.from_residual-in_err-put.result
    (front_in_list batch_text c.args.batches.now c.loop-batch.batch-index c.batch-item.result _ _ _ _ c.loop-batch-test.true c.batch-item.is c.loop-batch.invariant
    (rw (c.deref.ensures.value, c.in_ok-text.ensures) at c.in_err-put.ensures.front))
