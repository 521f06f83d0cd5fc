use Rattle.std.proofs.Common.{rules, ◌≤◌, length, arith}
use Rattle.cspf_model.specs.Changes.{database_after}
use Rattle.cspf_judge.proofs.Fronts.{at_error}
use Rattle.cspf_serve.proofs.PartLines.{part_begun, part_written}
use Rattle.cspf_serve.proofs.batch.answering.answer_in_parts.Goals as goal

pub loop-first-preserved : goal.loop-first-preserved
loop-first-preserved g c =
    let same = c.loop-first.invariant.same in
    let end = c.min-end.result in
    let up : c.loop-first.first ≤ end = omega (arith, c.min-end.ensures) in
    let bs = c.args.publisher.now.batches in
    record {
      within = omega (arith, c.min-end.ensures);
      same = search rules;
      some = search rules;
      few = search rules;
      source = rw same at c.in_ok-askers.ensures.source;
      text = part_written (database_after bs) (length bs) c.args.requests.now c.loop-first.first end
          (g.W.Write.contents c.args.writer.now) (g.W.Write.contents c.loop-first.writer) (g.W.Write.contents c.answer_from.new.writer)
          up c.loop-first.invariant.text (rw same at c.in_ok-askers.ensures.text);
    }

pub returns-in_err-askers-clause-begun : goal.returns-in_err-askers-clause-begun
returns-in_err-askers-clause-begun g c =
    let end = c.min-end.result in
    let up : c.loop-first.first ≤ end = omega (arith, c.min-end.ensures) in
    let bs = c.args.publisher.now.batches in
    at_error _ c.from_residual.result
    (part_begun (database_after bs) (length bs) c.args.requests.now c.loop-first.first end
    (g.W.Write.contents c.args.writer.now) (g.W.Write.contents c.loop-first.writer) (g.W.Write.contents c.answer_from.new.writer)
    up c.loop-first.invariant.text (rw c.loop-first.invariant.same at c.in_err-askers.ensures.begun))
