use Rattle.std.proofs.Common.{length-append, refl, arith}
use Rattle.std.proofs.lemmas.Result.{err_from_is_err_and}
use Rattle.cspf_rows.specs.declared.read_error.ReadError.TheVariants.{TooManyRows}
use Rattle.cspf_rows.proofs.JournalSteps.{same_fault}
use Rattle.cspf_rows.proofs.journal.whole.read_batches.Goals as goal

pub returns-in_err-read_batch-clause-too_many : goal.returns-in_err-read_batch-clause-too_many
returns-in_err-read_batch-clause-too_many g c =
    let ends = err_from_is_err_and c.from_residual.result c.from_residual.ensures.1 in
    λ refused all given.
    c.read_batch.ensures.too_many (same_fault c.from_residual.result c.read_batch.result _ ends.0 TooManyRows refused ends.1 ends.2 c.in_err-read_batch.was)
    all c.loop-batch.batches.items (c.loop-batch.invariant.given all given)

pub loop-batch-preserved : goal.loop-batch-preserved
loop-batch-preserved g c =
    let can = rw c.in-Batch.is at c.in_ok-read_batch.ensures.can in
    let more = rw c.in-Batch.is at c.in_ok-read_batch.ensures.more in
    let batch = rw c.in-Batch.is at c.in_ok-read_batch.ensures.batch in
    let on = (more refl).0 in
    let few = c.loop-batch.invariant.few in
    record {
      can = can refl;
      few = rw c.in_ok-add-in-Batch.ensures (simp length-append (omega arith));
      given = λ all given. rw c.in_ok-add-in-Batch.ensures (batch refl all c.loop-batch.batches.items (c.loop-batch.invariant.given all given));
    }
