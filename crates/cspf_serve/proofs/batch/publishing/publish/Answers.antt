use Rattle.std.proofs.Common.{◌≡◌, ap}
use Rattle.cspf_model.specs.Numbered.{NumberedChanges}
use Rattle.cspf_judge.specs.LineTexts.{judge_line_text}
use Rattle.cspf_serve.proofs.PublishedLines.{unfit_here}
use Rattle.cspf_serve.proofs.batch.publishing.publish.Goals as goal

pub returns-in-Refused-clause-published : goal.returns-in-Refused-clause-published
returns-in-Refused-clause-published g c =
    let number : c.batch.inside.number ≡ c.args.batch.now.number = ap (λ (b : NumberedChanges). b.number) c.batch.view_is in
    λ given numbered room is.
    unfit_here g.J.Write.contents c.args.publisher.now c.apply.new.self given c.args.batch.now c.in-Err.error (judge_line_text c.in-Refused.line) numbered room
    (rw c.in_default.is at is) c.in-Err.ensures.same c.in-Err.ensures.why (rw number at c.in-Refused.ensures.refused)
