use Rattle.std.proofs.Common.{rules, ◌≡◌}
use Rattle.cspf_serve.proofs.LiveRunLines.{at_error, held_as_before, live_fault, live_held, live_ran, live_refused}
use Rattle.cspf_serve.proofs.live.live_run.run_live_rows_with.Goals as goal

pub returns-in-Err-clause-whole : goal.returns-in-Err-clause-whole
returns-in-Err-clause-whole g c =
    live_refused (g.R.Read.remaining c.args.updates) (g.Q.Read.remaining c.args.requests) c.in-Err.end c.refuse.result
    (g.W.Write.contents c.args.writer.now) (g.W.Write.contents c.refuse.new.writer) (g.J.Write.contents c.args.journal)
    c.in-Err.ensures.err c.refuse.ensures.status c.refuse.ensures.line

pub returns-clause-whole : goal.returns-clause-whole
returns-clause-whole g c =
    let kept : c.deref.result.now ≡ c.in-Ok.read.batches.items = search rules in
    let asked : c.deref-2.result.now ≡ c.in-Ok.read.requests.items = search rules in
    let same : c.in-Ok-open_for.opened.0.journal ≡ c.args.journal = search rules in
    live_ran (g.R.Read.remaining c.args.updates) (g.Q.Read.remaining c.args.requests) c.in-Ok.read.batches.items c.in-Ok.read.requests.items
    c.answer_opened.result.0 (g.W.Write.contents c.args.writer.now) (g.W.Write.contents c.answer_opened.new.writer)
    (g.J.Write.contents c.args.journal) (g.J.Write.contents c.answer_opened.result.1)
    c.in-Ok.ensures.batches c.in-Ok.ensures.requests (rw (kept, asked, same) at c.answer_opened.ensures.whole)

pub returns-clause-error : goal.returns-clause-error
returns-clause-error g c =
    let asked : c.deref-2.result.now ≡ c.in-Ok.read.requests.items = search rules in
    live_fault (g.Q.Read.remaining c.args.requests) c.in-Ok.read.requests.items c.answer_opened.result.0 c.in-Ok.ensures.requests
    (rw asked at c.answer_opened.ensures.error)

pub returns-in-Err-clause-recorded : goal.returns-in-Err-clause-recorded
returns-in-Err-clause-recorded g c =
    at_error c.refuse.result (held_as_before (g.R.Read.remaining c.args.updates) (g.J.Write.contents c.args.journal))

pub returns-in-Err-open_for-clause-recorded : goal.returns-in-Err-open_for-clause-recorded
returns-in-Err-open_for-clause-recorded g c =
    rw c.in-Err-open_for.ensures.journal (held_as_before (g.R.Read.remaining c.args.updates) (g.J.Write.contents c.args.journal))

pub returns-clause-recorded : goal.returns-clause-recorded
returns-clause-recorded g c =
    let kept : c.deref.result.now ≡ c.in-Ok.read.batches.items = search rules in
    let same : c.in-Ok-open_for.opened.0.journal ≡ c.args.journal = search rules in
    live_held (g.R.Read.remaining c.args.updates) c.in-Ok.read.batches.items c.answer_opened.result.0
    (g.J.Write.contents c.args.journal) (g.J.Write.contents c.answer_opened.result.1)
    c.in-Ok.ensures.batches (rw (kept, same) at c.answer_opened.ensures.recorded)
