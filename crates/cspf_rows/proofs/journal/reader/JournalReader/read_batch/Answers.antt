use Rattle.std.proofs.Common.{◌≡◌, inl, refl, arith}
use Rattle.std.proofs.lemmas.Result.{err_from_is_err_and}
use Rattle.cspf_rows.specs.declared.journal.JournalStep.TheVariants.{Batch, End}
use Rattle.cspf_rows.specs.declared.read_error.ReadError.TheVariants.{TooManyRows}
use Rattle.cspf_rows.proofs.JournalSteps.{same_fault, given, came_batch, came_end}
use Rattle.cspf_rows.proofs.journal.reader.JournalReader.read_batch.Goals as goal

pub returns-in_err-step-clause-too_many : goal.returns-in_err-step-clause-too_many
returns-in_err-step-clause-too_many g c =
    let ends = err_from_is_err_and c.from_residual.result c.from_residual.ensures.1 in
    λ refused all gave h.
    c.take_row.ensures.too_many (same_fault c.from_residual.result c.take_row.result _ ends.0 TooManyRows refused ends.1 ends.2 c.in_err-step.was)
    all gave (c.loop-step.invariant.read all gave h.read)

pub returns-in-Some-clause-batch : goal.returns-in-Some-clause-batch
returns-in-Some-clause-batch g c =
    let came = rw c.in-Some.is at c.in_ok-step.ensures.some in
    λ is all gave h.
    let batch : c.in-Some.step ≡ Batch = cc in
    given g.R.Read.remaining all c.take_row.new.self _
    (came_batch g.R.Read.remaining all c.take_row.new.self gave c.take_row.new.batch c.in-Some.step batch (came all gave (c.loop-step.invariant.read all gave h.read)))

pub returns-in-Some-clause-end : goal.returns-in-Some-clause-end
returns-in-Some-clause-end g c =
    let came = rw c.in-Some.is at c.in_ok-step.ensures.some in
    λ left is all gave h.
    let end : c.in-Some.step ≡ End left = cc in
    came_end g.R.Read.remaining all c.take_row.new.self gave c.take_row.new.batch c.in-Some.step left end (came all gave (c.loop-step.invariant.read all gave h.read))

pub loop-step-preserved : goal.loop-step-preserved
loop-step-preserved g c =
    let can = rw c.in_default.is at c.in_ok-step.ensures.can in
    let read = rw c.in_default.is at c.in_ok-step.ensures.none in
    let more = (can (inl refl)).1 in
    let before = c.loop-step.invariant.on in
    record {
      can = (can (inl refl)).0;
      on = omega arith;
      read = λ all gave h. read all gave (c.loop-step.invariant.read all gave h);
    }
