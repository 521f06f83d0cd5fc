use Rattle.std.proofs.Common.{◌∙◌, sym, ap, arith}
use Rattle.cspf_model.specs.Database.{key_of}
use Rattle.cspf_book.specs.OverLinks.{is_made_over}
use Rattle.cspf_book.proofs.MadeOver.{made, not_made, bandwidth_on-route}
use Rattle.cspf_book.proofs.OverLists.{entry_listed, entry_passed}
use Rattle.std.proofs.lemmas.Bool.{false≢true}
use Rattle.cspf_book.proofs.over.list_made_over.Goals as goal
use Rattle.cspf_book.proofs.over.list_made_over.Goals.{then-is_passed+in_ok-push, else-is_passed}

pub loop-priority-preserved : goal.loop-priority-preserved
loop-priority-preserved c =
    λ placements kept.
    let p = c.args.placement.now in
    let l = c.args.link.now in
    let n = c.loop-priority.priority in
    let passed = rw c.from.ensures at c.is_passed.ensures in
    let held = c.sum-before.ensures ∙ kept.at (key_of l) n (omega arith) in
    let more = c.bandwidth_at-more.ensures ∙ sym (bandwidth_on-route (key_of l) n p c.requires) in
    elim c.if-is_passed.branch [
      | then-is_passed+in_ok-push w ↦
          let both = passed.0 w.if-is_passed.true in
          ap (λ v. v.items) w.list-is ∙ w.in_ok-push.ensures.items
          ∙ entry_listed (is_made_over placements p l) l n c.args.list.now.items c.loop-priority.list.items
          (made placements p l n c.sum-before.result c.bandwidth_at-more.result held more both.0 both.1) (c.loop-priority.invariant placements kept)
      | else-is_passed w ↦
          ap (λ v. v.items) w.list-is
          ∙ entry_passed (is_made_over placements p l) l n c.args.list.now.items c.loop-priority.list.items
          (not_made placements p l n c.sum-before.result c.bandwidth_at-more.result held more (λ enough less. false≢true (sym w.if-is_passed.false ∙ passed.1 (enough, less)))) (c.loop-priority.invariant placements kept)
    ]
