use Rattle.std.proofs.Common.{rules, ◌≡◌, refl}
use Rattle.std.proofs.lemmas.Result.{err_from_is_err_and}
use Rattle.cspf_judge.specs.EarlyEnds.{unfit_end}
use Rattle.cspf_judge.proofs.SnapshotRunLines.{unfit_refused}
use Rattle.cspf_judge.proofs.snapshot_run.snapshot_of.Goals as goal

pub returns-in_err-replay_into-clause-err : goal.returns-in_err-replay_into-clause-err
returns-in_err-replay_into-clause-err g c =
    let unfit = c.in_err-replay_into.field-0.0 in
    let ends = err_from_is_err_and c.from_residual-in_err-replay_into.result c.from_residual-in_err-replay_into.ensures.1 in
    let same : c.deref.result.now ≡ c.in_ok-batches.batches.items = search rules in
    rw (ends.1, ends.2)
    (unfit_refused c.args.accept_torn (g.R.Read.remaining c.args.journal) c.in_ok-batches.batches.items unfit (unfit_end unfit) refl
    c.in_ok-batches.ensures.ok (rw same at c.in_err-replay_into.ensures.err))
