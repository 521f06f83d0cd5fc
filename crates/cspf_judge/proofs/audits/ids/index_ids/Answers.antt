use Rattle.std.proofs.Common.{◌∙◌, sym, refl}
use Rattle.cspf_judge.proofs.IdPlaces.{none_own, some_is, none_is, places_next, own_next, repeats}
use Rattle.cspf_judge.proofs.audits.ids.index_ids.Goals as goal

pub loop-index-init : goal.loop-index-init
loop-index-init g c = record { places = λ id. rw (c.new-ids.ensures.empty) refl; own = none_own g.A.Asks.spec.id }

pub returns-then-is_some-clause-err : goal.returns-then-is_some-clause-err
returns-then-is_some-clause-err g c =
    let r = c.index-requests-index.result in
    let there = some_is c.in_ok-insert.field-0 (sym c.is_some.ensures ∙ c.if-is_some.true) in
    repeats g.A.Asks.spec.id c.args.requests.now c.loop-index.index r c.loop-index-test.true c.index-requests-index.is there.0 (sym (c.loop-index.invariant.places (g.A.Asks.spec.id r)) ∙ sym (rw c.id.ensures at c.in_ok-insert.ensures.old) ∙ there.1) c.loop-index.invariant.own

pub loop-index-preserved : goal.loop-index-preserved
loop-index-preserved g c =
    let r = c.index-requests-index.result in
    let absent = none_is c.in_ok-insert.field-0 (sym c.is_some.ensures ∙ c.if-is_some.false) in
    let lacks = sym (rw c.id.ensures at c.in_ok-insert.ensures.old) ∙ absent in record {
      places = places_next g.A.Asks.spec.id c.args.requests.now c.loop-index.index r c.loop-index-test.true c.index-requests-index.is c.loop-index.ids c.insert.new.self c.loop-index.invariant.places lacks (rw c.id.ensures at c.in_ok-insert.ensures.updates);
      own = own_next g.A.Asks.spec.id c.args.requests.now c.loop-index.index r c.loop-index-test.true c.index-requests-index.is c.loop-index.invariant.own (sym (c.loop-index.invariant.places (g.A.Asks.spec.id r)) ∙ lacks);
    }
