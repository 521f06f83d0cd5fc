use Rattle.std.proofs.Common.{◌≡◌, ◌∙◌, List, All, ap, sym, subst, flat_map}
use Rattle.std.specs.List.Sorted.{IsStrictlyIncreasing}
use Rattle.cspf_jobs.specs.DrawnNumbers.{DrawnNumbers}
use Rattle.cspf_work.proofs.Running.{run_faults, run_counters}
use Rattle.cspf_work.proofs.crew.dismiss.Goals as goal

pub part-results-requires-clause-faults : goal.part-results-requires-clause-faults
part-results-requires-clause-faults c = run_faults c.args.crew.counter.now c.requires.0 c.requires.1 c.args.crew.workers.items c.requires.2

pub returns-clause-results : goal.returns-clause-results
returns-clause-results c = λ requests before run. record {
  run = run;
  askers = c.part-results.ensures.askers;
  lists = c.part-results.ensures.lists;
  drawn = c.join-last.ensures.drawn ∙ ap (λ (ds : List DrawnNumbers). flat_map (λ (d : DrawnNumbers). d.drawn) ds) c.part-results.ensures.drawers;
  rising = subst (λ (ds : List DrawnNumbers). All (λ (d : DrawnNumbers). IsStrictlyIncreasing d.drawn) ds) c.part-results.ensures.drawers c.join-last.ensures.rising;
  fault = c.part-results.ensures.fault;
  none = c.part-results.ensures.none;
  first = c.part-results.ensures.first;
}

pub join-last-requires-clause-counter : goal.join-last-requires-clause-counter
join-last-requires-clause-counter c = (
  c.args.crew.seat,
  subst (λ (ds : List DrawnNumbers). All (λ (d : DrawnNumbers). d.counter ≡ c.args.crew.counter.now) ds) (sym c.part-results.ensures.drawers)
      (run_counters c.args.crew.counter.now c.requires.0 c.requires.1 c.args.crew.workers.items c.requires.2),
)
