use Rattle.std.proofs.Common.{ap, ◌∙◌, arith}
use Rattle.std.proofs.lemmas.List.{get_or_read, take_all}
use Rattle.cspf_model.specs.Changes.{key_changed}
use Rattle.cspf_columns.proofs.SortedChanges.{places_more, listed_more}
use Rattle.cspf_columns.proofs.merging.list_order.Goals as goal

pub loop-at-preserved : goal.loop-at-preserved
loop-at-preserved c =
    let changes = c.args.changes.now in
    let before = c.loop-at.invariant in
    record {
      places = rw c.push_reserved.ensures.items (places_more changes c.loop-at.order.items c.loop-at.at c.key.result c.loop-at-test.true (λ d. c.key.ensures ∙ ap key_changed (get_or_read changes c.loop-at.at c.index-changes-at.result c.loop-at-test.true c.index-changes-at.is d)) before.places);
      each = λ d. rw c.push_reserved.ensures.items (listed_more changes c.loop-at.order.items c.loop-at.at c.key.result d c.loop-at-test.true (before.each d));
      len = omega (arith, c.push_reserved.ensures.len, before.len);
      capacity = omega (arith, c.push_reserved.ensures.capacity, before.capacity);
    }

pub returns-clause-each : goal.returns-clause-each
returns-clause-each c d = c.loop-at.invariant.each d ∙ take_all c.loop-at.at c.args.changes.now (omega arith)
