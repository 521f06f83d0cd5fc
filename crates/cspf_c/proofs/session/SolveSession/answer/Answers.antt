use Rattle.cspf_c.proofs.Streams.{stream_counted, stream_answered}
use Rattle.cspf_c.proofs.session.SolveSession.answer.Goals as goal

pub invariant_of-result : goal.invariant_of-result
invariant_of-result c = record { counted = stream_counted c.args.self.taken c.answer_rows.new.answering _ _ _ c.in-Ok.ensures.whole c.args.self.counted }

pub returns-in-Ok : goal.returns-in-Ok
returns-in-Ok c = λ rows lines has.
    stream_answered c.args.self.taken c.answer_rows.new.answering _ c.args.bytes.now c.new-lines.result.items c.answer_rows.new.writer.items rows lines
    c.open_records-rows.ensures.rows c.new-lines.ensures.items c.in-Ok.ensures.whole has
