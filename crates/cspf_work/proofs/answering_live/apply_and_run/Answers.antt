use Rattle.std.proofs.Common.{rules, List, subst}
use Rattle.cspf_publish.specs.PublisherStates.{PublisherState}
use Rattle.cspf_work.specs.declared.worker.Worker.{Worker}
use Rattle.cspf_work.specs.Working.{AreRun}
use Rattle.cspf_work.specs.Applied.{IsAppliedUpTo}
use Rattle.cspf_work.proofs.answering_live.apply_and_run.Goals as goal

pub returns-clause-run : goal.returns-clause-run
returns-clause-run g c = λ id before ready.
    subst (λ (all : List Worker). AreRun id c.args.requests.now before all) (search rules) (c.join_mut.ensures.0.met.1 id before ready)

pub returns-clause-applied : goal.returns-clause-applied
returns-clause-applied g c =
    subst (λ (p : PublisherState g.row.W.Denot). IsAppliedUpTo g.W.Write.contents c.args.publisher.now p c.args.batches.now c.join_mut.result.1.0 c.join_mut.result.1.1)
    (search rules) c.join_mut.ensures.1.met.1
