use Rattle.std.proofs.Common.{rules, ◌≡◌, List, get_or, subst}
use Rattle.cspf_jobs.specs.DrawnNumbers.{CounterId}
use Rattle.cspf_publish.specs.AskerStates.{AskerState}
use Rattle.cspf_work.specs.declared.worker.Worker.{Worker}
use Rattle.cspf_work.specs.Working.{IsWorkerRun, AreRun}
use Rattle.cspf_work.proofs.Running.{run_each}
use Rattle.cspf_work.proofs.pool.run_all.Goals as goal

pub returns : goal.returns
returns g c = λ id before ready.
    subst (λ (all : List AskerState). AreRun id c.args.requests.now all c.for_each_mut.new.s) ready.askers
    (run_each id c.args.requests.now c.args.workers.now c.for_each_mut.new.s ready.some (search rules) (λ i d less.
    let call = (c.for_each_mut.ensures i d less).1 in
    let run : IsWorkerRun call.argument.now.drawer.counter c.args.requests.now call.argument.now.asker call.after_call.now = search rules in
    let counter : (get_or c.args.workers.now i d).drawer.counter ≡ id = (ready.idle i d less).counter in
    subst (λ (k : CounterId). IsWorkerRun k c.args.requests.now (get_or c.args.workers.now i d).asker (get_or c.for_each_mut.new.s i d)) counter
    (subst (λ (w : Worker). IsWorkerRun w.drawer.counter c.args.requests.now w.asker (get_or c.for_each_mut.new.s i d)) call.argument_is
    (subst (λ (w : Worker). IsWorkerRun call.argument.now.drawer.counter c.args.requests.now call.argument.now.asker w) call.left run))))
