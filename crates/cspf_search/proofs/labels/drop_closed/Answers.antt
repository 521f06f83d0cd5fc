use Rattle.std.proofs.Common.{◌≡◌, heap_items, arith}
use Rattle.std.proofs.lemmas.List.{take_all}
use Rattle.cspf_search.proofs.Heaps.{key_dropped, key_kept, none_new}
use Rattle.cspf_search.proofs.labels.drop_closed.Goals as goal
use Rattle.cspf_search.proofs.labels.drop_closed.Goals.{then-key-floor+in_ok-push, else-key-floor}

pub loop-key-preserved : goal.loop-key-preserved
loop-key-preserved c =
    let before = c.loop-key.invariant in
    let items = c.as_slice-key-items.result.now in
    let left = heap_items c.loop-key.left in
    let k = c.loop-key.key-index in
    elim c.if-key-floor.branch [
      | then-key-floor+in_ok-push w ↦
          let out = w.in_ok-push.ensures in
          rw w.left-is (record {
            ordered = out.heap_order before.ordered;
            kept = key_kept c.args.floor items left k c.loop-key-test.true before.kept before.only (heap_items w.push.new.self) out.permutation;
            only = none_new c.args.floor items left k c.loop-key-test.true before.kept before.only (heap_items w.push.new.self) out.permutation;
            few = omega (arith, before.few, out.len);
          })
      | else-key-floor w ↦
          rw w.left-is (record {
            ordered = before.ordered;
            kept = key_dropped c.args.floor items left k c.loop-key-test.true before.kept before.only w.if-key-floor.false;
            only = before.only;
            few = omega (arith, before.few);
          })
    ]

pub returns-clause-left : goal.returns-clause-left
returns-clause-left c =
    let end = c.loop-key.invariant in
    let items : c.as_slice-key-items.result.now ≡ heap_items c.args.heap.now = c.as_slice-key-items.ensures.value in
    let all = take_all c.loop-key.key-index c.as_slice-key-items.result.now c.loop-key-test.false in
    record {
      ordered = end.ordered;
      kept = λ key has up. end.kept key (rw (all, items) has) up;
      only = λ key has. rw items at (end.only key has);
    }
