use Rattle.std.proofs.Common.{◌+◌, eqb, length, sym, ap, ◌∙◌, rules, tests, arith}
use Rattle.std.proofs.lemmas.Iterator.Consumers.{YieldsList-turn, YieldsList-end}
use Rattle.std.proofs.lemmas.Iterator.Splits.{YieldsList-from_slice_split}
use Rattle.std.proofs.lemmas.List.{length_push}
use Rattle.cspf_addr.specs.HopLists.{parts_of}
use Rattle.cspf_addr.proofs.HopListLemmas.{read_more, read_refused, read_all}
use Rattle.cspf_addr.proofs.hop_reader.read_parts.Goals as goal

pub returns-in_default : goal.returns-in_default
unfolding parts_of
returns-in_default c =
    let turn = YieldsList-turn (YieldsList-from_slice_split _ (λ byte. eqb byte 32) c.args.text.now (cc) (cc) (cc) (λ x b q k. search (rules, tests))) c.loop-part.yielded _ c.loop-part.yielded_by _ _ c.in-Some.part c.in-Some.is c.next.ensures.steps in
    rw (c.len.ensures.value ∙ c.loop-part.invariant.same)
    (read_refused (parts_of c.args.text.now) (length c.loop-part.yielded) c.in-Some.part.now c.loop-part.hops turn.0 turn.1 (sym c.in_default.is ∙ c.read_hop.ensures) c.loop-part.invariant.read)

pub push-requires : goal.push-requires
unfolding parts_of
push-requires c =
    let turn = YieldsList-turn (YieldsList-from_slice_split _ (λ byte. eqb byte 32) c.args.text.now (cc) (cc) (cc) (λ x b q k. search (rules, tests))) c.loop-part.yielded _ c.loop-part.yielded_by _ _ c.in-Some.part c.in-Some.is c.next.ensures.steps in
    omega (arith, turn.0, c.loop-part.invariant.same, c.requires)

pub loop-part-preserved : goal.loop-part-preserved
unfolding parts_of
loop-part-preserved c =
    let turn = YieldsList-turn (YieldsList-from_slice_split _ (λ byte. eqb byte 32) c.args.text.now (cc) (cc) (cc) (λ x b q k. search (rules, tests))) c.loop-part.yielded _ c.loop-part.yielded_by _ _ c.in-Some.part c.in-Some.is c.next.ensures.steps in
    rw (c.push.ensures, length_push c.loop-part.yielded c.in-Some.part) record {
      same =
          length_push c.loop-part.hops c.in-Some-read_hop.hop
          ∙ ap (λ n. n + 1) c.loop-part.invariant.same;
      read =
          read_more (parts_of c.args.text.now) (length c.loop-part.yielded) c.in-Some.part.now c.loop-part.hops c.in-Some-read_hop.hop turn.0 turn.1 (sym c.in-Some-read_hop.is ∙ c.read_hop.ensures) c.loop-part.invariant.read;
    }

pub returns : goal.returns
unfolding parts_of
returns c =
    let end = YieldsList-end (YieldsList-from_slice_split _ (λ byte. eqb byte 32) c.args.text.now (cc) (cc) (cc) (λ x b q k. search (rules, tests))) c.loop-part.yielded _ c.loop-part.yielded_by _ _ c.in-None.is c.next.ensures.steps in
    read_all (parts_of c.args.text.now) (length c.loop-part.yielded) c.loop-part.hops end.1
    c.loop-part.invariant.read
