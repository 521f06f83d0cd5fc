use Rattle.std.proofs.Common.{◌+◌, ◌∙◌, refl, ap, inl}
use Rattle.cspf_stream.specs.declared.rows.Rows.{Rows}
use Rattle.cspf_stream.proofs.RowSteps.{accepted, refused_said, at_error}
use Rattle.cspf_stream.proofs.rows.Rows.end.Goals as goal

pub returns-in_err-found-clause-failed : goal.returns-in_err-found-clause-failed
returns-in_err-found-clause-failed g c = at_error _ c.from_residual.result (λ s kept. (
  s,
  record {
    sink = c.in_err-found.ensures.lost ∙ kept.sink;
    changes = c.give.ensures.open s.changes kept.changes;
    answers = c.give.ensures.answers ∙ kept.answers;
    refused = c.give.ensures.refusals ∙ kept.refused;
  },
  inl refl,
))

pub returns-in-Ok-clause-answered : goal.returns-in-Ok-clause-answered
returns-in-Ok-clause-answered g c = λ s kept.
    let new : Rows g.row.S.Denot = record { sink = c.give.new.self.sink; changes = c.clear.new.self; answers = c.give.new.self.answers; refused = c.give.new.self.refused } in
    let led =
    accepted g.S.Sink.spec c.args.self.now new c.args.number c.args.count c.clear.ensures.open c.give.ensures.answers c.in-Ok.lines.items c.give.ensures.refusals (rw c.in-Ok.is at c.in_ok-found.ensures.accepted) s kept in
    (led.0, led.1, inl led.2)

pub returns-in-Err-clause-answered : goal.returns-in-Err-clause-answered
returns-in-Err-clause-answered g c =
    let new : Rows g.row.S.Denot = record { sink = c.give.new.self.sink; changes = c.clear.new.self; answers = c.give.new.self.answers; refused = c.give.new.self.refused + 1 } in
    (refused_said g.S.Sink.spec c.args.self.now new c.args.number c.args.count c.clear.ensures.open c.give.ensures.answers c.bytes.result (λ line. line.items) c.in-Err.refusal
    (ap (λ n. n + 1) c.give.ensures.refusals) (rw c.in-Err.is at c.in_ok-found.ensures.refused) c.bytes.ensures).0

pub returns-in-Err-clause-failed : goal.returns-in-Err-clause-failed
returns-in-Err-clause-failed g c =
    let new : Rows g.row.S.Denot = record { sink = c.give.new.self.sink; changes = c.clear.new.self; answers = c.give.new.self.answers; refused = c.give.new.self.refused + 1 } in
    (refused_said g.S.Sink.spec c.args.self.now new c.args.number c.args.count c.clear.ensures.open c.give.ensures.answers c.bytes.result (λ line. line.items) c.in-Err.refusal
    (ap (λ n. n + 1) c.give.ensures.refusals) (rw c.in-Err.is at c.in_ok-found.ensures.refused) c.bytes.ensures).1
