use Rattle.std.proofs.Common.{rules, arith, ◌≡◌, ◌++◌, [], ◌∷◌, List, subst, append_assoc}
use Rattle.std.specs.Vec.Iter.{into_iter_items}
use Rattle.std.proofs.lemmas.Grind.{common_steps}
use Rattle.cspf_work.specs.declared.worker.Reply.{Reply}
use Rattle.cspf_work.specs.Collected.{AreFilled}
use Rattle.cspf_work.proofs.Filling.{left_step, twice_whole}
use Rattle.cspf_work.proofs.collecting.put_list.Goals as goal

pub loop-reply-preserved : goal.loop-reply-preserved
loop-reply-preserved c = record {
  left =
      left_step c.loop-reply.yielded c.in-Some.reply (into_iter_items c.loop-reply.reply-iterator) (into_iter_items c.next.new.self) c.args.list.items c.loop-reply.invariant.left
      c.in-Some.ensures.steps.0;
  count = search rules;
  filled = λ done is.
      let more : AreFilled c.put.new.slots.items ((done ++ c.loop-reply.yielded) ++ c.in-Some.reply ∷ []) = c.in_default.ensures.ok (done ++ c.loop-reply.yielded) (c.loop-reply.invariant.filled done is) in
      subst (λ (l : List Reply). AreFilled c.put.new.slots.items l) (append_assoc done c.loop-reply.yielded (c.in-Some.reply ∷ [])) more;
}

pub returns-in-Err-clause-error : goal.returns-in-Err-clause-error
returns-in-Err-clause-error c = λ done is.
    twice_whole done c.loop-reply.yielded c.in-Some.reply (into_iter_items c.next.new.self) c.args.list.items c.in-Err.twice
    (left_step c.loop-reply.yielded c.in-Some.reply (into_iter_items c.loop-reply.reply-iterator) (into_iter_items c.next.new.self) c.args.list.items c.loop-reply.invariant.left
    c.in-Some.ensures.steps.0)
    (c.in-Err.ensures.error (done ++ c.loop-reply.yielded) (c.loop-reply.invariant.filled done is))

pub returns-clause-ok : goal.returns-clause-ok
returns-clause-ok c = λ done is.
    let whole : c.loop-reply.yielded ≡ c.args.list.items = first_of (search rules, grind (arith, common_steps)) in
    subst (λ (l : List Reply). AreFilled c.loop-reply.slots.items (done ++ l)) whole (c.loop-reply.invariant.filled done is)
