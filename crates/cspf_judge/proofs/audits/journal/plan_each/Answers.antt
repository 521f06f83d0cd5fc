use Rattle.std.proofs.Common.{ap, subst, arith}
use Rattle.cspf_model.specs.Numbered.{NumberedChanges}
use Rattle.cspf_model.specs.Refusals.{IsRefusal}
use Rattle.cspf_model.proofs.Batches.FirstUnfit.{first_unfit}
use Rattle.cspf_db.specs.Plans.{IsPlanOf}
use Rattle.cspf_judge.specs.Reading.{ArePlansUpTo}
use Rattle.cspf_judge.proofs.BatchSteps.{absorbed, lawful_next, one_more_plan}
use Rattle.cspf_judge.proofs.audits.journal.plan_each.Goals as goal

pub returns-in-Err-clause-err : goal.returns-in-Err-clause-err
returns-in-Err-clause-err c =
    let b = c.batch-item.result in
    first_unfit c.args.batches.now c.loop-batch.batch-index b c.loop-batch-test.true c.batch-item.is c.batch.inside.number c.in-Err.refusal (ap (λ (n : NumberedChanges). n.number) c.batch.view_is) c.loop-batch.invariant.lawful
    (subst (λ d. IsRefusal d b c.in-Err.refusal) c.loop-batch.invariant.table c.in-Err.ensures.err)

pub loop-batch-preserved : goal.loop-batch-preserved
loop-batch-preserved c =
    let batches = c.args.batches.now in
    let b = c.batch-item.result in
    let is = c.loop-batch.invariant in
    let plan = subst (λ d. IsPlanOf d b c.in-Ok.plan) is.table c.in-Ok.ensures.ok in
    record {
      table = absorbed batches c.loop-batch.batch-index b c.loop-batch-test.true c.batch-item.is c.absorbing.ensures c.loop-batch.table c.absorb_planned.new.self is.table c.absorb_planned.ensures;
      lawful = lawful_next batches c.loop-batch.batch-index b c.loop-batch-test.true c.batch-item.is c.lawful_batches.ensures.more is.lawful plan.fits;
      planned = rw c.push_reserved.ensures.items (one_more_plan batches c.loop-batch.batch-index b c.loop-batch-test.true c.batch-item.is c.loop-batch.plans.items c.in-Ok.plan is.planned plan);
      room = (let room = is.room in let more = c.push_reserved.ensures.capacity in omega arith);
    }

pub returns-clause-planned : goal.returns-clause-planned
returns-clause-planned c =
    subst (ArePlansUpTo c.args.batches.now c.loop-batch.plans.items) (omega (arith, c.loop-batch-test.false, c.loop-batch.auto.batch-index-end)) c.loop-batch.invariant.planned
