use Rattle.std.proofs.Common.{rules}
use Rattle.cspf_work.proofs.Running.{run_written_back}
use Rattle.cspf_work.proofs.answering_live.run_beside.Goals as goal

pub dismiss-results-requires : goal.dismiss-results-requires
dismiss-results-requires g c = (
  c.args.requests.now,
  c.requires.0,
  run_written_back _ c.args.requests.now c.requires.0 c.args.crew.workers.items c.as_mut_slice-workers.result.now c.apply_and_run-applied.new.workers _ c.args.crew.workers.len
      c.as_mut_slice-workers.ensures.value (search rules) c.requires.1 (c.apply_and_run-applied.ensures.run c.args.crew.counter.now c.requires.0),
)

pub returns-clause-results : goal.returns-clause-results
returns-clause-results g c = λ before ready. (
  _,
  c.dismiss-results.ensures.results c.args.requests.now before
      (run_written_back _ c.args.requests.now before c.args.crew.workers.items c.as_mut_slice-workers.result.now c.apply_and_run-applied.new.workers _ c.args.crew.workers.len
      c.as_mut_slice-workers.ensures.value (search rules) ready (c.apply_and_run-applied.ensures.run c.args.crew.counter.now before)),
)
