use Rattle.std.proofs.Common.{◌≡◌, ℕ, [], ◌∷◌, ◌++◌, ◌+◌, ◌-◌, ◌*◌, length, replicate, set, length-set, refl, sym, ap, ◌∙◌, heap_items, arith}
use Rattle.std.proofs.lemmas.List.{length_push}
use Rattle.std.specs.Vec.{with_item, with_items}
use Rattle.cspf_db.specs.Index.{links_of}
use Rattle.cspf_search.specs.declared.goal.Goal.{Goal}
use Rattle.cspf_search.specs.declared.labels.Label.{Label}
use Rattle.cspf_search.specs.declared.query.Query.{Query}
use Rattle.cspf_search.specs.Query.{IsQuery}
use Rattle.cspf_graph.specs.Lists.{IsIndexOf}
use Rattle.cspf_search.specs.Rounds.{CrossesBelow}
use Rattle.cspf_search.specs.Arena.{labels_of, root_of}
use Rattle.cspf_search.specs.Bounds.{AreBounds}
use Rattle.cspf_search.specs.Frontier.{AreLabels}
use Rattle.cspf_search.proofs.Grown.{root_nodes, root_settled}
use Rattle.cspf_search.proofs.Heaps.{labels_open}
use Rattle.cspf_search.proofs.Popped.{first_labels}
use Rattle.cspf_search.proofs.Reached.{IsAsked, taken, ended, no_start, first_floor, first_left, parent_there, stepped, stepped_few, node_there, at_goal, settle, still_left, floor_on, labels_on}
use Rattle.cspf_graph.proofs.Slices.{written_back}
use Rattle.cspf_search.proofs.search.reached.Goals as goal

-- What the search is given: the query, the indexes of the head-end and the tail-end, and the goal.
asked_of : (query : Query) (from to : ℕ) (goal : Goal) → IsQuery query → IsIndexOf query.table.now query.request.now.from from → IsIndexOf query.table.now query.request.now.to to
    → goal.at ≡ (query.legs - 1) * 1024 + to → AreBounds query.table.now query.request.now goal.bounds.now → IsAsked query.table.now query.request.now query.legs from to goal
asked_of query from to goal is start end at bounds = assumption

pub expand-requires-clause-before : goal.expand-requires-clause-before
expand-requires-clause-before c =
    let blank : Label = record { rank = 18446744073709551615; parent = 0; place = 0; row = 0 } in
    let zero : Label = record { rank = 0; parent = 0; place = 0; row = 0 } in
    let labels : c.in_ok-labels.labels.items ≡ replicate (c.args.query.legs * 1024) (record { rank = 18446744073709551615; parent = 0; place = 0; row = 0 }) =
    c.in_ok-labels.ensures.items_if_clones_equal (λ y e. e) in
    let bounds : AreBounds c.args.query.table.now c.args.query.request.now c.deref.result.now = rw c.deref.ensures.value c.in_ok-bounds.ensures in
    rw (c.deref-2.ensures.value, c.in_ok-nodes.ensures, c.deref_mut.ensures.value, labels)
    (first_labels c.args.query.table.now c.args.query.request.now c.requires.query.listed c.args.from c.requires.from
    (record { at = (c.args.query.legs - 1) * 1024 + c.args.to; floor = 0; bounds = c.deref.result }) bounds refl blank zero refl refl
    (heap_items c.in_ok-heap.heap) c.in_ok-heap.ensures.items c.in_ok-heap.ensures.heap_order (c.args.query.legs * 1024) (ap (λ n. n * 1024) c.requires.query.count))

pub returns-then-is_shut : goal.returns-then-is_shut
returns-then-is_shut c =
    let d = c.args.query.table.now in
    let q = c.args.query.request.now in
    let goal : Goal = record { at = (c.args.query.legs - 1) * 1024 + c.args.to; floor = 0; bounds = c.deref.result } in
    let asked = asked_of c.args.query c.args.from c.args.to goal c.requires.query c.requires.from c.requires.to refl (rw c.deref.ensures.value c.in_ok-bounds.ensures) in
    rw c.in_ok-nodes.ensures (record {
      arena = root_nodes q;
      few = omega arith;
      settled = root_settled d q;
      whole = λ left. no_start d q c.args.query.legs c.args.from c.args.to goal asked (c.is_shut.ensures c.if-is_shut.true);
    })

pub loop-at-init : goal.loop-at-init
loop-at-init c =
    let d = c.args.query.table.now in
    let q = c.args.query.request.now in
    let legs = c.args.query.legs in
    let goal : Goal = record { at = (c.args.query.legs - 1) * 1024 + c.args.to; floor = 0; bounds = c.deref.result } in
    let asked = asked_of c.args.query c.args.from c.args.to goal c.requires.query c.requires.from c.requires.to refl (rw c.deref.ensures.value c.in_ok-bounds.ensures) in
    let after = rw (c.deref-2.ensures.value, c.in_ok-nodes.ensures) at c.in_ok-expand.ensures.after in
    let put =
    written_back c.in_ok-labels.labels.len c.expand.new.labels c.deref_mut.result.now (set c.in_ok-labels.labels.items c.args.from (record { rank = 0; parent = 0; place = 0; row = 0 }))
    c.expand.auto.labels c.deref_mut.ensures.value (c.in_ok-labels.labels.ok.0 ∙ sym (length-set c.in_ok-labels.labels.items c.args.from (record { rank = 0; parent = 0; place = 0; row = 0 }))) in
    rw c.in_ok-nodes.ensures (record {
      asked = asked;
      few = omega (arith, c.requires.query.count);
      under_way = record {
        arena = root_nodes q;
        settled = root_settled d q;
        left = first_left d q legs c.args.from c.args.to goal asked;
        floor = first_floor d q legs c.args.from c.args.to goal asked refl (labels_of (root_of q ∷ []));
        labelled = rw put after;
      };
    })

pub node_of-node-requires-clause-parent : goal.node_of-node-requires-clause-parent
node_of-node-requires-clause-parent c =
    rw c.deref-in-Some.ensures.value
    (parent_there _ _ _ _ _ _ c.loop-at.invariant.asked _ _ _ c.loop-at.invariant.under_way _ _ (rw c.deref-in-loop-at.ensures.value at c.in-Some.ensures.some) _ c.index.ensures)

pub returns-then-at-goal : goal.returns-then-at-goal
returns-then-at-goal c =
    let t = taken _ _ _ _ _ _ _ _ _ _ _ _ c.loop-at.invariant.asked c.loop-at.invariant.under_way (rw c.deref-in-loop-at.ensures.value at c.in-Some.ensures.some) _ c.index.ensures (rw c.deref-in-Some.ensures.value at c.node_of-node.ensures) in
    let new = stepped _ _ _ _ _ _ t.asked _ _ _ t.before _ _ t.least _ t.is in
    record {
      arena = rw c.in_ok-push.ensures.items new.0;
      few = rw c.in_ok-push.ensures.items (omega (arith, stepped_few _ _ _ _ _ _ t.asked _ _ _ t.before _ _ t.least _ t.is, t.asked.count));
      settled = rw c.in_ok-push.ensures.items new.1;
      whole = λ none. absurd (at_goal _ _ _ _ _ _ t.asked _ _ _ t.before _ _ t.least _ t.is c.if-at-goal.true (rw c.in_ok-push.ensures.items at none));
    }

pub expand-requires-in-Some-clause-arena : goal.expand-requires-in-Some-clause-arena
expand-requires-in-Some-clause-arena c =
    let t = taken _ _ _ _ _ _ _ _ _ _ _ _ c.loop-at.invariant.asked c.loop-at.invariant.under_way (rw c.deref-in-loop-at.ensures.value at c.in-Some.ensures.some) _ c.index.ensures (rw c.deref-in-Some.ensures.value at c.node_of-node.ensures) in
    rw (c.deref-in-Some-2.ensures.value, c.in_ok-push.ensures.items) (stepped _ _ _ _ _ _ t.asked _ _ _ t.before _ _ t.least _ t.is).0

pub expand-requires-in-Some-clause-from : goal.expand-requires-in-Some-clause-from
expand-requires-in-Some-clause-from c =
    let t = taken _ _ _ _ _ _ _ _ _ _ _ _ c.loop-at.invariant.asked c.loop-at.invariant.under_way (rw c.deref-in-loop-at.ensures.value at c.in-Some.ensures.some) _ c.index.ensures (rw c.deref-in-Some.ensures.value at c.node_of-node.ensures) in
    let long : c.len-index.result ≡ length c.loop-at.nodes.items = omega (arith, c.len-index.ensures, c.loop-at.nodes.ok.0) in
    rw (c.deref-in-Some-2.ensures.value, c.in_ok-push.ensures.items, long) (node_there _ _ _ _ _ _ t.asked _ _ _ t.before _ _ t.least _ t.is)

pub expand-requires-in-Some-clause-before : goal.expand-requires-in-Some-clause-before
expand-requires-in-Some-clause-before c =
    let t = taken _ _ _ _ _ _ _ _ _ _ _ _ c.loop-at.invariant.asked c.loop-at.invariant.under_way (rw c.deref-in-loop-at.ensures.value at c.in-Some.ensures.some) _ c.index.ensures (rw c.deref-in-Some.ensures.value at c.node_of-node.ensures) in
    let long : c.len-index.result ≡ length c.loop-at.nodes.items = omega (arith, c.len-index.ensures, c.loop-at.nodes.ok.0) in
    rw (c.deref-in-Some-2.ensures.value, c.in_ok-push.ensures.items, long, c.deref_mut-in-Some.ensures.value)
    (settle _ _ _ _ _ _ t.asked _ _ _ t.before _ _ t.least _ t.is c.if-at-goal.false (record { rank = 0; parent = 0; place = 0; row = 0 }) refl)

pub loop-at-smaller : goal.loop-at-smaller
loop-at-smaller c =
    let nodes = c.loop-at.nodes.items in
    let node = c.node_of-node.result in
    let t = taken _ _ _ _ _ _ _ _ _ _ _ _ c.loop-at.invariant.asked c.loop-at.invariant.under_way (rw c.deref-in-loop-at.ensures.value at c.in-Some.ensures.some) _ c.index.ensures (rw c.deref-in-Some.ensures.value at c.node_of-node.ensures) in
    let new = stepped _ _ _ _ _ _ t.asked _ _ _ t.before _ _ t.least _ t.is in
    rw c.in_ok-push.ensures.items (omega (arith, new.2, length_push nodes node, t.asked.count, c.in_ok-goal.ensures.fewer, c.in_ok-expand-2.ensures.few, c.in-Some.ensures.fewer))

pub loop-at-preserved : goal.loop-at-preserved
loop-at-preserved c =
    let d = c.args.query.table.now in
    let nodes = c.loop-at.nodes.items in
    let node = c.node_of-node.result in
    let t = taken _ _ _ _ _ _ _ _ _ _ _ _ c.loop-at.invariant.asked c.loop-at.invariant.under_way (rw c.deref-in-loop-at.ensures.value at c.in-Some.ensures.some) _ c.index.ensures (rw c.deref-in-Some.ensures.value at c.node_of-node.ensures) in
    let long : c.len-index.result ≡ length c.loop-at.nodes.items = omega (arith, c.len-index.ensures, c.loop-at.nodes.ok.0) in
    let new = stepped _ _ _ _ _ _ t.asked _ _ _ t.before _ _ t.least _ t.is in
    let after = rw (c.deref-in-Some-2.ensures.value, c.in_ok-push.ensures.items, long) at c.in_ok-expand-2.ensures.after in
    let put =
    written_back c.loop-at.labels.len c.expand-in-Some.new.labels c.deref_mut-in-Some.result.now (set c.loop-at.labels.items c.in-Some.at (record { rank = 0; parent = 0; place = 0; row = 0 }))
    c.expand-in-Some.auto.labels c.deref_mut-in-Some.ensures.value (c.loop-at.labels.ok.0 ∙ sym (length-set c.loop-at.labels.items c.in-Some.at (record { rank = 0; parent = 0; place = 0; row = 0 }))) in
    let told = c.requires.query.roles in
    let choice = rw c.deref-in-Some-3.ensures.value at c.in_ok-goal.ensures.floor in
    let on : AreLabels c.args.query.table.now c.args.query.request.now (c.loop-at.nodes.items ++ (c.node_of-node.result ∷ []))
    (CrossesBelow c.args.query.table.now c.args.query.request.now (c.loop-at.nodes.items ++ (c.node_of-node.result ∷ [])) (links_of c.args.query.table.now) (length (c.loop-at.nodes.items ++ (c.node_of-node.result ∷ []))))
    c.loop-at.goal (with_items (with_item c.loop-at.labels c.in-Some.at (record { rank = 0; parent = 0; place = 0; row = 0 })) c.expand-in-Some.new.labels).items (heap_items c.expand-in-Some.new.heap) =
    rw (put, length_push nodes node) after in
    rw c.in_ok-push.ensures.items (record {
      asked = assumption t.asked;
      few = stepped_few _ _ _ _ _ _ t.asked _ _ _ t.before _ _ t.least _ t.is;
      under_way = record {
        arena = new.0;
        settled = new.1;
        left = still_left _ _ _ _ _ _ t.asked _ _ _ t.before _ _ t.least _ t.is c.if-at-goal.false;
        floor =
            floor_on _ _ _ _ _ _ t.asked _ _ _ t.before _ _ t.least _ t.is c.args.query.roles.now told c.in_ok-goal.field-0 (CrossesBelow d c.args.query.request.now (nodes ++ (node ∷ [])) (links_of d) (length (nodes ++ (node ∷ []))))
            (with_items (with_item c.loop-at.labels c.in-Some.at (record { rank = 0; parent = 0; place = 0; row = 0 })) c.expand-in-Some.new.labels).items (heap_items c.expand-in-Some.new.heap)
            on c.if-at-goal.false choice;
        labelled =
            labels_open _ _ _ _ _ _ _ _
            (labels_on _ _ _ _ _ _ t.asked _ _ _ t.before _ _ t.least _ t.is c.args.query.roles.now told c.in_ok-goal.field-0 (CrossesBelow d c.args.query.request.now (nodes ++ (node ∷ [])) (links_of d) (length (nodes ++ (node ∷ []))))
            (with_items (with_item c.loop-at.labels c.in-Some.at (record { rank = 0; parent = 0; place = 0; row = 0 })) c.expand-in-Some.new.labels).items (heap_items c.expand-in-Some.new.heap)
            on choice)
            c.in_ok-goal.ensures.left;
      };
    })

pub returns : goal.returns
returns c =
    let before = c.loop-at.invariant.under_way in
    record {
      arena = before.arena;
      few = omega (arith, c.loop-at.invariant.few, c.requires.query.count);
      settled = before.settled;
      whole = ended _ _ _ _ _ _ c.loop-at.invariant.asked _ _ _ before (rw c.deref-in-loop-at.ensures.value at c.in_default.ensures.none);
    }
