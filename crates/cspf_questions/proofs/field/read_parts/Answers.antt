use Rattle.std.proofs.Common.{◌≡◌, ◌+◌, eqb, length, vec_len, sym, ap, ◌∙◌, rules, tests, arith}
use Rattle.std.proofs.lemmas.Iterator.Consumers.{YieldsList-turn, YieldsList-end}
use Rattle.std.proofs.lemmas.Iterator.Splits.{YieldsList-from_slice_split}
use Rattle.std.proofs.lemmas.List.{length_push}
use Rattle.std.proofs.lemmas.List.Splits.{length-slice_split}
use Rattle.cspf_addr.specs.HopLists.{parts_of}
use Rattle.cspf_questions.proofs.ExclusionParts.{read_more, read_refused, read_all}
use Rattle.cspf_questions.proofs.field.read_parts.Goals as goal

pub returns-in_default : goal.returns-in_default
unfolding parts_of
returns-in_default c =
    let turn = YieldsList-turn (YieldsList-from_slice_split _ (λ byte. eqb byte 32) c.args.text.now (cc) (cc) (cc) (λ x b q k. search (rules, tests))) c.loop-part.yielded _ c.loop-part.yielded_by _ _ c.in-Some.part c.in-Some.is c.next.ensures.steps in
    let length_is : vec_len c.loop-part.list ≡ length c.loop-part.list.items = search rules in
    rw (c.len.ensures ∙ length_is ∙ c.loop-part.invariant.same)
    (read_refused (parts_of c.args.text.now) (length c.loop-part.yielded) c.in-Some.part.now c.loop-part.list.items turn.0 turn.1 (sym c.in_default.is ∙ c.read_exclusion.ensures) c.loop-part.invariant.read)

pub loop-part-preserved : goal.loop-part-preserved
unfolding parts_of
loop-part-preserved c =
    let turn = YieldsList-turn (YieldsList-from_slice_split _ (λ byte. eqb byte 32) c.args.text.now (cc) (cc) (cc) (λ x b q k. search (rules, tests))) c.loop-part.yielded _ c.loop-part.yielded_by _ _ c.in-Some.part c.in-Some.is c.next.ensures.steps in
    rw (c.in_ok-push.ensures.items, length_push c.loop-part.yielded c.in-Some.part) record {
      same =
          length_push c.loop-part.list.items c.in-Some-read_exclusion.exclusion
          ∙ ap (λ n. n + 1) c.loop-part.invariant.same;
      read =
          read_more (parts_of c.args.text.now) (length c.loop-part.yielded) c.in-Some.part.now c.loop-part.list.items c.in-Some-read_exclusion.exclusion turn.0 turn.1 (sym c.in-Some-read_exclusion.is ∙ c.read_exclusion.ensures) c.loop-part.invariant.read;
    }

pub new-requires : goal.new-requires
unfolding parts_of
new-requires c =
    let end = YieldsList-end (YieldsList-from_slice_split _ (λ byte. eqb byte 32) c.args.text.now (cc) (cc) (cc) (λ x b q k. search (rules, tests))) c.loop-part.yielded _ c.loop-part.yielded_by _ _ c.in-None.is c.next.ensures.steps in
    let parts = length-slice_split (λ byte. eqb byte 32) c.args.text.now in
    let many = c.loop-part.invariant.same in
    let most = c.requires in
    let length_is : vec_len c.loop-part.list ≡ length c.loop-part.list.items = search rules in
    (omega (arith, length_is, end.1, parts, many), omega (arith, length_is, end.1, many, most))

pub returns : goal.returns
unfolding parts_of
returns c =
    let end = YieldsList-end (YieldsList-from_slice_split _ (λ byte. eqb byte 32) c.args.text.now (cc) (cc) (cc) (λ x b q k. search (rules, tests))) c.loop-part.yielded _ c.loop-part.yielded_by _ _ c.in-None.is c.next.ensures.steps in
    rw c.new.ensures
    (read_all (parts_of c.args.text.now) (length c.loop-part.yielded) c.loop-part.list.items end.1
    c.loop-part.invariant.read)
