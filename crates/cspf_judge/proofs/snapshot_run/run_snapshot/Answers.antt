use Rattle.cspf_judge.proofs.Fronts.{at_error}
use Rattle.cspf_judge.proofs.SnapshotRunLines.{refusal_written, refusal_begun, snapshot_begun}
use Rattle.cspf_judge.proofs.snapshot_run.run_snapshot.Goals as goal

pub returns-in-Err-clause-whole : goal.returns-in-Err-clause-whole
returns-in-Err-clause-whole g c =
    refusal_written c.args.accept_torn c.refuse.result (g.R.Read.remaining c.args.journal)
    (g.W.Write.contents c.args.writer.now) (g.W.Write.contents c.refuse.new.writer) c.in-Err.end
    c.in-Err.ensures.err c.refuse.ensures.status c.refuse.ensures.line

pub returns-in-Err-clause-stopped : goal.returns-in-Err-clause-stopped
returns-in-Err-clause-stopped g c =
    refusal_begun c.args.accept_torn c.refuse.result (g.R.Read.remaining c.args.journal)
    (g.W.Write.contents c.args.writer.now) (g.W.Write.contents c.refuse.new.writer) c.in-Err.end
    c.in-Err.ensures.err c.refuse.ensures.begun

pub returns-in_err-write_batches-in-Ok-clause-stopped : goal.returns-in_err-write_batches-in-Ok-clause-stopped
returns-in_err-write_batches-in-Ok-clause-stopped g c =
    at_error _ c.from_residual.result
    (snapshot_begun c.args.accept_torn (g.R.Read.remaining c.args.journal) (g.W.Write.contents c.args.writer.now) (g.W.Write.contents c.write_batches.new.writer)
    c.in-Ok.batches.items c.in-Ok.ensures.ok (rw c.deref.ensures.value at c.in_err-write_batches-in-Ok.ensures.front))
