use Rattle.std.proofs.Common.{sym, subst, ◌∙◌, arith}
use Rattle.std.proofs.lemmas.List.{take_all}
use Rattle.cspf_model.specs.Changes.{after_changes}
use Rattle.cspf_book.specs.Touched.{AreEntered}
use Rattle.cspf_book.proofs.TouchedKeys.{entered_more}
use Rattle.cspf_book.proofs.touched.Touched.new.Goals as goal

pub loop-change-preserved : goal.loop-change-preserved
loop-change-preserved c =
    let d = c.args.base.now in record {
      groups = c.enter.ensures.kept.groups ∙ c.loop-change.invariant.groups;
      entered =
          entered_more d (after_changes d c.args.changed.now) c.loop-change.touched c.enter.new.self c.args.changes.now c.loop-change.change-index c.change-item.result
          c.loop-change-test.true c.change-item.is c.enter.ensures.kept c.enter.ensures.entered c.loop-change.invariant.entered;
    }

pub returns-clause-touched : goal.returns-clause-touched
returns-clause-touched c =
    let d = c.args.base.now in
    subst (λ cs. AreEntered d (after_changes d c.args.changed.now) cs c.loop-change.touched)
    (take_all c.loop-change.change-index c.args.changes.now (omega arith) ∙ sym c.requires) c.loop-change.invariant.entered
