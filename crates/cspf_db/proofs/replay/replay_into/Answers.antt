use Rattle.std.proofs.Common.{ap, subst, ◌∙◌}
use Rattle.cspf_model.specs.Numbered.{NumberedChanges}
use Rattle.cspf_model.specs.Refusals.{IsRefusal}
use Rattle.cspf_model.proofs.Batches.LeastReasons.{refused_unfit}
use Rattle.cspf_model.proofs.Batches.FirstUnfit.{first_unfit}
use Rattle.cspf_db.proofs.replay.replay_into.Goals as goal

abbrev pub returns-in-Err-clause-err : goal.returns-in-Err-clause-err
returns-in-Err-clause-err c =
    let b = c.batch-item.result in
    first_unfit c.args.batches.now c.loop-batch.batch-index b c.loop-batch-test.true c.batch-item.is c.batch.inside.number c.in-Err.refusal (ap (λ (n : NumberedChanges). n.number) c.batch.view_is) c.loop-batch.invariant.lawful
    (subst (λ d. IsRefusal d b c.in-Err.refusal) c.loop-batch.invariant.table c.in-Err.ensures.err)

pub returns-in-Err-clause-stopped : goal.returns-in-Err-clause-stopped
returns-in-Err-clause-stopped c =
    let first = returns-in-Err-clause-err c in
    record {
      before = first.before;
      batch = first.batch;
      after = first.after;
      split = first.split;
      lawful = first.lawful;
      unfit = refused_unfit _ _ _ first.refused;
      database = c.in-Err.ensures.same ∙ c.loop-batch.invariant.table;
    }
