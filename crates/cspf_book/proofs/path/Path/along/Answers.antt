use Rattle.std.proofs.Common.{◌+◌, ◌++◌, sym, ap, ◌∙◌, append-nil, drop}
use Rattle.std.proofs.lemmas.List.{drop_all}
use Rattle.cspf_book.specs.PathsFrom.{path_from}
use Rattle.cspf_book.proofs.SteppedPaths.{path-step}
use Rattle.cspf_book.proofs.path.Path.along.Goals as goal

pub loop-step-preserved : goal.loop-step-preserved
loop-step-preserved c =
    let steps = c.args.steps.now in
    path-step steps c.loop-step.step-index c.loop-step.router c.step-item.result c.loop-step.links.items (path_from c.args.from steps) c.loop-step-test.true c.step-item.is c.loop-step.invariant
    ∙ ap (λ ls. ls ++ path_from c.step-item.result.1 (drop (c.loop-step.step-index + 1) steps)) (sym c.in_ok-push.ensures.items)

pub returns : goal.returns
returns c =
    let none = drop_all c.loop-step.step-index c.args.steps.now c.loop-step-test.false in
    let whole = rw none at c.loop-step.invariant in
    sym (append-nil c.loop-step.links.items) ∙ sym whole
