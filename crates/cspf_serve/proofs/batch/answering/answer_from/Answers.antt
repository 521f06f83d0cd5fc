use Rattle.std.proofs.Common.{rules, drop}
use Rattle.cspf_judge.proofs.Fronts.{at_error}
use Rattle.cspf_serve.proofs.AnswerLines.{answers_begun, replies_written, rest_answered}
use Rattle.cspf_serve.proofs.PartLines.{sources_kept}
use Rattle.cspf_serve.proofs.batch.answering.answer_from.Goals as goal

pub returns-in-Ok-clause-source : goal.returns-in-Ok-clause-source
returns-in-Ok-clause-source g c =
    sources_kept c.args.publisher.now.source c.args.askers.items c.in-Ok.field-0.askers.items c.in-Ok.ensures.askers c.requires.source

pub returns-in-Ok-clause-text : goal.returns-in-Ok-clause-text
returns-in-Ok-clause-text g c =
    let bs = c.args.publisher.now.batches in
    let rest = drop c.args.first c.args.requests.now in
    replies_written bs rest c.as_slice.result.now (g.W.Write.contents c.args.writer.now) (g.W.Write.contents c.write_replies.new.writer)
    (rest_answered bs c.args.first c.args.requests.now c.in-Ok.field-0.list.items c.as_slice.result.now (search rules) c.in-Ok.ensures.answers)
    c.in_ok-write_replies-in-Ok.ensures.text

pub returns-in_err-write_replies-in-Ok-clause-begun : goal.returns-in_err-write_replies-in-Ok-clause-begun
returns-in_err-write_replies-in-Ok-clause-begun g c =
    let bs = c.args.publisher.now.batches in
    let rest = drop c.args.first c.args.requests.now in
    at_error _ c.from_residual.result
    (answers_begun bs rest c.as_slice.result.now (g.W.Write.contents c.args.writer.now) (g.W.Write.contents c.write_replies.new.writer)
    (rest_answered bs c.args.first c.args.requests.now c.in-Ok.field-0.list.items c.as_slice.result.now (search rules) c.in-Ok.ensures.answers)
    c.in_err-write_replies-in-Ok.ensures.begun)
