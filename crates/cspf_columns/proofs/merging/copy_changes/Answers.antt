use Rattle.std.proofs.Common.{map, ap, subst, ◌∙◌, sym, arith}
use Rattle.std.proofs.lemmas.List.{take_all}
use Rattle.cspf_columns.proofs.SortedChanges.{change_of, copied_more}
use Rattle.cspf_columns.specs.MergeSteps.{IsPlaceOfChange}
use Rattle.cspf_columns.proofs.merging.copy_changes.Goals as goal

pub bounds-changes-place : goal.bounds-changes-place
bounds-changes-place c = (subst (IsPlaceOfChange c.args.changes.now) (sym c.place-item.is) (c.requires.places c.loop-place.place-index c.place-item.result c.loop-place-test.true)).within

pub loop-place-preserved : goal.loop-place-preserved
loop-place-preserved c =
    let within = (subst (IsPlaceOfChange c.args.changes.now) (sym c.place-item.is) (c.requires.places c.loop-place.place-index c.place-item.result c.loop-place-test.true)).within in
    record {
      each = λ d. c.push_reserved.ensures.items ∙ copied_more c.args.changes.now c.args.order.now c.loop-place.place-index c.place-item.result c.index-changes-place.result d c.loop-place.sorted.items c.loop-place-test.true c.place-item.is within c.index-changes-place.is (c.loop-place.invariant.each d);
      len = omega (arith, c.push_reserved.ensures.len, c.loop-place.invariant.len);
      capacity = omega (arith, c.push_reserved.ensures.capacity, c.loop-place.invariant.capacity);
    }

pub returns-clause-each : goal.returns-clause-each
returns-clause-each c d = c.loop-place.invariant.each d ∙ ap (map (change_of c.args.changes.now d)) (take_all c.loop-place.place-index c.args.order.now (omega arith))
