use Rattle.std.proofs.Common.{rules, arith, ◌≡◌, ◌++◌, [], ◌∷◌, List, Vec, length, ap, sym, subst, ◌∙◌}
use Rattle.std.specs.Global.{Global}
use Rattle.std.specs.Vec.Iter.{into_iter_items}
use Rattle.std.proofs.lemmas.Grind.{common_steps}
use Rattle.std.proofs.lemmas.List.{map-append}
use Rattle.cspf_work.specs.declared.worker.Reply.{Reply}
use Rattle.cspf_jobs.specs.EachOnce.{once_below}
use Rattle.cspf_work.specs.Working.{indexes}
use Rattle.cspf_work.specs.Collected.{AreFilled, IsPlaced}
use Rattle.cspf_work.proofs.Filling.{replies, replies-push, left_step, twice_collected, missing_collected, times_in-indexes, times-replies, filled_once, filled_placed, all_lists}
use Rattle.cspf_work.proofs.collecting.collect.Goals as goal

pub returns-in-Err-clause-error : goal.returns-in-Err-clause-error
returns-in-Err-clause-error c =
    twice_collected c.args.count c.loop-list.yielded (into_iter_items c.next.new.self) c.args.lists.items c.in-Some.list c.in-Err.error
    (left_step c.loop-list.yielded c.in-Some.list (into_iter_items c.loop-list.list-iterator) (into_iter_items c.next.new.self) c.args.lists.items c.loop-list.invariant.left
    c.in-Some.ensures.steps.0)
    (c.in-Err.ensures.error (replies c.loop-list.yielded) c.loop-list.invariant.filled)

pub loop-list-preserved : goal.loop-list-preserved
loop-list-preserved c = record {
  left =
      left_step c.loop-list.yielded c.in-Some.list (into_iter_items c.loop-list.list-iterator) (into_iter_items c.next.new.self) c.args.lists.items c.loop-list.invariant.left
      c.in-Some.ensures.steps.0;
  count = c.take_over.ensures.count ∙ c.loop-list.invariant.count;
  filled =
      subst (λ (l : List Reply). AreFilled c.take_over.new.slots.items l) (sym (replies-push c.loop-list.yielded c.in-Some.list))
      (c.in_default-take_over.ensures.ok (replies c.loop-list.yielded) c.loop-list.invariant.filled);
  drawn =
      c.in_default-take_over.ensures.drawn ∙ ap (λ (l : List (List _)). l ++ indexes c.in-Some.list.items ∷ []) c.loop-list.invariant.drawn
      ∙ sym (map-append (λ (v : Vec Reply Global). indexes v.items) c.loop-list.yielded (c.in-Some.list ∷ []));
}

pub returns-in-Ok-answers_of-clause-once : goal.returns-in-Ok-answers_of-clause-once
returns-in-Ok-answers_of-clause-once c = λ x.
    let whole : c.loop-list.yielded ≡ c.args.lists.items = first_of (search rules, grind (arith, common_steps)) in
    let long : length c.in-Ok-answers_of.list.items ≡ c.args.count = first_of (search rules, grind (arith, common_steps)) in
    times_in-indexes x c.loop-list.drawn.items c.loop-list.yielded c.loop-list.invariant.drawn ∙ sym (times-replies x c.loop-list.yielded)
    ∙ filled_once c.loop-list.slots.items c.in-Ok-answers_of.list.items (replies c.loop-list.yielded) c.in-Ok-answers_of.ensures.ok c.loop-list.invariant.filled x
    ∙ ap (λ n. once_below n x) long

pub returns-in-Ok-answers_of-clause-placed : goal.returns-in-Ok-answers_of-clause-placed
returns-in-Ok-answers_of-clause-placed c =
    let whole : c.loop-list.yielded ≡ c.args.lists.items = first_of (search rules, grind (arith, common_steps)) in
    let filled : AreFilled c.loop-list.slots.items (replies c.args.lists.items) = subst (λ (l : List (Vec Reply Global)). AreFilled c.loop-list.slots.items (replies l)) whole c.loop-list.invariant.filled in
    all_lists (IsPlaced c.in-Ok-answers_of.list.items) c.args.lists.items
    (filled_placed c.loop-list.slots.items c.in-Ok-answers_of.list.items (replies c.args.lists.items) c.in-Ok-answers_of.ensures.ok filled)

pub returns-in-Err-answers_of-clause-error : goal.returns-in-Err-answers_of-clause-error
returns-in-Err-answers_of-clause-error c =
    let whole : c.loop-list.yielded ≡ c.args.lists.items = first_of (search rules, grind (arith, common_steps)) in
    let long : length c.loop-list.slots.items ≡ c.args.count = first_of (search rules, grind (arith, common_steps)) in
    let filled : AreFilled c.loop-list.slots.items (replies c.args.lists.items) = subst (λ (l : List (Vec Reply Global)). AreFilled c.loop-list.slots.items (replies l)) whole c.loop-list.invariant.filled in
    missing_collected c.args.count c.loop-list.slots.items c.args.lists.items c.in-Err-answers_of.error long filled c.in-Err-answers_of.ensures.error
