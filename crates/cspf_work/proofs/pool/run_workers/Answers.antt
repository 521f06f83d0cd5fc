use Rattle.std.proofs.Common.{rules}
use Rattle.cspf_work.proofs.Running.{run_written_back}
use Rattle.cspf_work.proofs.pool.run_workers.Goals as goal

pub dismiss-requires : goal.dismiss-requires
dismiss-requires g c = (
  c.args.requests.now,
  c.requires.0,
  run_written_back _ c.args.requests.now c.requires.0 c.args.crew.workers.items c.as_mut_slice.result.now c.run_all.new.workers _ c.args.crew.workers.len
      c.as_mut_slice.ensures.value (search rules) c.requires.1 (c.run_all.ensures c.args.crew.counter.now c.requires.0),
)

pub returns-clause-results : goal.returns-clause-results
returns-clause-results g c = λ before ready. (
  _,
  c.dismiss.ensures.results c.args.requests.now before
      (run_written_back _ c.args.requests.now before c.args.crew.workers.items c.as_mut_slice.result.now c.run_all.new.workers _ c.args.crew.workers.len
      c.as_mut_slice.ensures.value (search rules) ready (c.run_all.ensures c.args.crew.counter.now before)),
)
