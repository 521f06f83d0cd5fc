use Rattle.cspf_serve.proofs.LiveRunLines.{run_answered, run_failed, run_recorded}
use Rattle.cspf_serve.proofs.live.live_run.answer_opened.Goals as goal

pub returns-clause-whole : goal.returns-clause-whole
returns-clause-whole g c = λ numbered.
    run_answered g.J.Write.contents c.args.batches.now c.args.requests.now c.args.publisher c.end_live.result.0 c.end_live.result.1
    c.run_live-ran.result c.args.askers.items (g.W.Write.contents c.args.writer.now) (g.W.Write.contents c.end_live.new.writer)
    numbered c.requires.batches c.requires.fresh.0 c.requires.fresh.1 c.run_live-ran.ensures.answers c.run_live-ran.ensures.published c.run_live-ran.ensures.applied
    c.end_live.ensures.lines c.end_live.ensures.journal c.end_live.ensures.history c.end_live.ensures.fault

pub returns-clause-error : goal.returns-clause-error
returns-clause-error g c =
    run_failed g.J.Write.contents c.args.batches.now c.args.requests.now c.args.publisher c.end_live.result.0 c.end_live.result.1
    c.run_live-ran.result c.end_live.ensures.error c.end_live.ensures.fault c.run_live-ran.ensures.error

pub returns-clause-recorded : goal.returns-clause-recorded
returns-clause-recorded g c = λ numbered.
    run_recorded g.J.Write.contents c.args.batches.now c.args.requests.now c.args.publisher c.end_live.result.0 c.end_live.result.1
    c.run_live-ran.result numbered c.requires.batches c.requires.fresh.0 c.requires.fresh.1 c.run_live-ran.ensures.applied c.run_live-ran.ensures.part
    c.end_live.ensures.journal c.end_live.ensures.closed
