use Rattle.std.proofs.Common.{refl, subst, arith}
use Rattle.std.proofs.lemmas.List.{take_all}
use Rattle.cspf_book.specs.ByKey.{IsByKey}
use Rattle.cspf_book.proofs.ByKey.{by_key_more}
use Rattle.cspf_book.proofs.changed.Changed.new.Goals as goal

pub loop-change-init : goal.loop-change-init
loop-change-init c = record { last_at = λ k. rw c.new-last.ensures.empty refl }

pub loop-change-preserved : goal.loop-change-preserved
loop-change-preserved c =
    by_key_more c.loop-change.last c.insert.new.self c.args.changes.now c.loop-change.change-index c.change-item.result c.key.result
    c.loop-change-test.true c.change-item.is c.key.ensures c.in_ok-insert.ensures.updates.0 c.loop-change.invariant

pub invariant_of-result : goal.invariant_of-result
invariant_of-result c =
    subst (IsByKey c.loop-change.last) (take_all c.loop-change.change-index c.args.changes.now (omega arith)) c.loop-change.invariant
