use Rattle.std.proofs.Common.{ap, ◌∙◌, arith}
use Rattle.cspf_model.specs.Database.{key_of}
use Rattle.cspf_book.proofs.OverLists.{over_listed, over_passed}
use Rattle.cspf_book.proofs.over.list_over.Goals as goal
use Rattle.cspf_book.proofs.over.list_over.Goals.{then-from-held+in_ok-push, else-from-held}

pub loop-priority-preserved : goal.loop-priority-preserved
loop-priority-preserved c =
    λ placements kept.
    let read = rw c.from.ensures at c.from-in-loop-priority.ensures in
    let held = c.sum-held.ensures ∙ kept.at (key_of c.args.link.now) c.loop-priority.priority (omega arith) in
    elim c.if-from-held.branch [
      | then-from-held+in_ok-push w ↦
          let listed = over_listed placements c.args.link.now c.loop-priority.priority c.args.list.now.items c.loop-priority.list.items (omega (arith, read, held, w.if-from-held.true)) (c.loop-priority.invariant placements kept) in
          ap (λ v. v.items) w.list-is ∙ w.in_ok-push.ensures.items ∙ listed
      | else-from-held w ↦ ap (λ v. v.items) w.list-is ∙ over_passed placements c.args.link.now c.loop-priority.priority c.args.list.now.items c.loop-priority.list.items (omega (arith, read, held, w.if-from-held.false)) (c.loop-priority.invariant placements kept)
    ]
