use Rattle.std.proofs.Common.{◌≡◌, ◌+◌, ◌<◌, [], ◌∷◌, ◌++◌, take, length, ap, sym, ◌∙◌, arith}
use Rattle.std.proofs.lemmas.List.{take_more}
use Rattle.cspf_publish.specs.declared.answer.Answer.{Answer}
use Rattle.cspf_judge.proofs.Fronts.{at_error}
use Rattle.cspf_serve.proofs.AnswerLines.{writes_answer, answer_begun}
use Rattle.cspf_serve.proofs.streams.replies.write_replies.Goals as goal

pub loop-answer-preserved : goal.loop-answer-preserved
loop-answer-preserved g c =
    let list = c.args.answers.now in
    let i = c.loop-answer.answer-index in
    let within : i < length list = omega arith in
    let more : take (i + 1) list ≡ take i list ++ c.answer-item.result ∷ [] =
    take_more list i c.answer-item.result within ∙ ap (λ (a : Answer). take i list ++ a ∷ []) (sym c.answer-item.is) in
    rw more
    (writes_answer (take i list) c.answer-item.result
    (g.W.Write.contents c.args.writer.now) (g.W.Write.contents c.loop-answer.writer) (g.W.Write.contents c.write_reply.new.writer)
    c.loop-answer.invariant c.in_ok-write_reply.ensures.text)

pub returns-in_err-write_reply-clause-begun : goal.returns-in_err-write_reply-clause-begun
returns-in_err-write_reply-clause-begun g c =
    let list = c.args.answers.now in
    let i = c.loop-answer.answer-index in
    let within : i < length list = omega arith in
    let more : take (i + 1) list ≡ take i list ++ c.answer-item.result ∷ [] =
    take_more list i c.answer-item.result within ∙ ap (λ (a : Answer). take i list ++ a ∷ []) (sym c.answer-item.is) in
    at_error _ c.from_residual.result
    (answer_begun list i c.answer-item.result
    (g.W.Write.contents c.args.writer.now) (g.W.Write.contents c.loop-answer.writer) (g.W.Write.contents c.write_reply.new.writer)
    more c.loop-answer.invariant c.in_err-write_reply.ensures.begun)
