use Rattle.std.proofs.Common.{refl, sym, ap, subst, ◌∙◌, arith}
use Rattle.cspf_model.specs.Numbered.{NumberedChanges}
use Rattle.cspf_stream.specs.Lines.{version_line}
use Rattle.cspf_serve.specs.UpdatesStates.{publisher_spec}
use Rattle.cspf_serve.specs.Counted.{CountedState}
use Rattle.cspf_serve.proofs.UpdatesSteps.{published_whole, apply_error_whole}
use Rattle.cspf_serve.proofs.serving.updates.CountedSink.accept.Goals as goal

pub learn-requires : goal.learn-requires
learn-requires g c = c.steps.ensures.source ∙ (c.apply.ensures.source ∙ sym c.self.invariant.source)

pub returns-in-Ok-clause-accepted : goal.returns-in-Ok-clause-accepted
returns-in-Ok-clause-accepted g c = λ all front.
    let after : CountedState g.row.J.Denot = record { publisher = c.apply.new.self; steps = c.learn-in-Ok.new.self } in
    subst (λ (p : CountedState g.row.J.Denot). (publisher_spec g.J.Write.contents).accepts p (record c.args.batch.now { changes = all }) c.in_ok-line.line.items after) c.self.view_is (
      published_whole g.J.Write.contents c.self.inside.publisher c.apply.new.self c.args.batch.now all front (record {
        next = c.in-Ok.ensures.next;
        batches = c.in-Ok.ensures.published;
        going = c.in-Ok.ensures.going;
        recorded = c.in-Ok.ensures.recorded;
      }),
      c.apply.ensures.source,
      record { later = c.learn-in-Ok.ensures.own; counted = omega (arith, c.steps.ensures.count, c.learn-in-Ok.ensures.other_count) },
      c.in_ok-line.ensures ∙ ap (λ (b : NumberedChanges). version_line b.number) c.batch.view_is,
    )

pub returns-in-Err-clause-refused : goal.returns-in-Err-clause-refused
returns-in-Err-clause-refused g c = λ all front.
    let after : CountedState g.row.J.Denot = record { publisher = c.apply.new.self; steps = c.self.inside.steps } in
    subst (λ (p : CountedState g.row.J.Denot). (publisher_spec g.J.Write.contents).refuses p (record c.args.batch.now { changes = all }) c.refusal_of.result after) c.self.view_is (
      c.in-Err.error,
      c.refusal_of.ensures,
      apply_error_whole g.J.Write.contents c.self.inside.publisher c.apply.new.self c.args.batch.now all front c.in-Err.error c.in-Err.ensures.why,
      c.in-Err.ensures.same,
      c.apply.ensures.source,
      refl,
    )
