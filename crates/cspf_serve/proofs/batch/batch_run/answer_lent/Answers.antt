use Rattle.std.proofs.Common.{rules, ◌≡◌}
use Rattle.cspf_serve.proofs.BatchFronts.{batch_begun, run_refused_begun}
use Rattle.cspf_serve.proofs.BatchLines.{batch_ran, batch_failed, run_refused}
use Rattle.cspf_serve.proofs.batch.batch_run.answer_lent.Goals as goal

pub returns-in-Ok-clause-whole : goal.returns-in-Ok-clause-whole
returns-in-Ok-clause-whole g c =
    let same : c.deref.result.now ≡ c.in-Ok.field-0.requests.items = search rules in
    batch_ran c.args.streams.accept_torn (g.R.Read.remaining c.args.streams.journal) (g.Q.Read.remaining c.args.streams.requests)
    c.publish_and_read.new.publisher.batches c.in-Ok.field-0.unfit c.in-Ok.field-0.requests.items
    (g.W.Write.contents c.args.writer.now) (g.W.Write.contents c.answer_read.new.writer) c.in-Ok.ensures.published c.in-Ok.ensures.requests
    c.answer_read.result (rw same at c.answer_read.ensures.whole)

pub returns-in-Err-clause-whole : goal.returns-in-Err-clause-whole
returns-in-Err-clause-whole g c =
    run_refused c.args.streams.accept_torn (g.R.Read.remaining c.args.streams.journal) (g.Q.Read.remaining c.args.streams.requests)
    c.in-Err.end c.refuse.result (g.W.Write.contents c.args.writer.now) (g.W.Write.contents c.refuse.new.writer)
    c.in-Err.ensures.err c.refuse.ensures.status c.refuse.ensures.line

pub returns-in-Ok-clause-error : goal.returns-in-Ok-clause-error
returns-in-Ok-clause-error g c =
    let read = c.in-Ok.field-0 in
    let same : c.deref.result.now ≡ read.requests.items = search rules in
    let failed = rw same at c.answer_read.ensures.error in
    batch_failed c.args.streams.accept_torn (g.R.Read.remaining c.args.streams.journal) (g.Q.Read.remaining c.args.streams.requests)
    c.publish_and_read.new.publisher.batches read.unfit read.requests.items (g.W.Write.contents c.args.writer.now) (g.W.Write.contents c.answer_read.new.writer)
    c.in-Ok.ensures.published c.in-Ok.ensures.requests c.answer_read.result failed

pub returns-in-Ok-clause-stopped : goal.returns-in-Ok-clause-stopped
returns-in-Ok-clause-stopped g c =
    let read = c.in-Ok.field-0 in
    let same : c.deref.result.now ≡ read.requests.items = search rules in
    batch_begun c.args.streams.accept_torn c.publish_and_read.new.publisher.batches read.unfit read.requests.items
    (g.W.Write.contents c.args.writer.now) (g.W.Write.contents c.answer_read.new.writer) (g.R.Read.remaining c.args.streams.journal) (g.Q.Read.remaining c.args.streams.requests)
    c.answer_read.result c.in-Ok.ensures.published c.in-Ok.ensures.requests (rw same at c.answer_read.ensures.begun)

pub returns-in-Err-clause-stopped : goal.returns-in-Err-clause-stopped
returns-in-Err-clause-stopped g c =
    run_refused_begun c.args.streams.accept_torn (g.R.Read.remaining c.args.streams.journal) (g.Q.Read.remaining c.args.streams.requests)
    c.in-Err.end c.refuse.result (g.W.Write.contents c.args.writer.now) (g.W.Write.contents c.refuse.new.writer)
    c.in-Err.ensures.err c.refuse.ensures.begun
