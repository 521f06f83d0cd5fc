use Rattle.std.proofs.Common.{◌≡◌, ◌+◌, ◌-◌, ◌*◌, ◌%◌, ◌^◌, ◌<◌, ◌≤◌, inl, inr, false, slice_index_or, refl, sym, ap, ◌∙◌, heap_items, arith}
use Rattle.std.proofs.lemmas.Bool.{false≢true, not-true, not-false}
use Rattle.std.proofs.lemmas.Option.{slice_get_within}
use Rattle.std.proofs.lemmas.Result.{on_ok_weaker}
use Rattle.cspf_model.specs.Admissible.{IsUsable}
use Rattle.cspf_db.specs.Index.{links_from_index}
use Rattle.cspf_search.specs.declared.labels.Label.{Label}
use Rattle.cspf_graph.specs.declared.roles.Role.{Role}
use Rattle.cspf_search.specs.Frontier.{nowhere, label_at}
use Rattle.cspf_search.proofs.Expanded.{link_index}
use Rattle.cspf_search.proofs.Heaps.{rank_read}
use Rattle.cspf_search.proofs.Ranks.{rank_at}
use Rattle.cspf_graph.proofs.LinkRows.{has_reverse}
use Rattle.cspf_search.proofs.Taken.{few_rows, link_told, link_off, link_late, link_offer, link_tied, link_taken}
use Rattle.cspf_search.proofs.frontier.offer_link.Goals.{then-edge-eq-NO_LINK-via-then-edge-eq-NO_LINK, then-edge-eq-NO_LINK-via-else-edge-eq-NO_LINK+then-not-accepts}
use Rattle.cspf_search.proofs.frontier.offer_link.Goals as goal

pub overflow_mul-new : goal.overflow_mul-new
overflow_mul-new c =
    let small : c.args.edge.link.now.metric < 2 ^ 32 = omega (arith, c.args.edge.same) in
    omega (arith, small, c.from.ensures, c.args.edge.same)

pub overflow_add-new : goal.overflow_add-new
overflow_add-new c =
    let small : c.args.edge.link.now.metric < 2 ^ 32 = omega (arith, c.args.edge.same) in
    let room : c.args.source.rank < 2 ^ 60 = rw c.requires.source.rank (rank_at c.args.source.nodes.now c.requires.source.arena c.args.source.at c.requires.source.node.within) in
    omega (arith, small, room, c.from.ensures, c.args.edge.same)

pub overflow_add-new-2 : goal.overflow_add-new-2
overflow_add-new-2 c =
    let small : c.args.edge.link.now.metric < 2 ^ 32 = omega (arith, c.args.edge.same) in
    let room : c.args.source.rank < 2 ^ 60 = rw c.requires.source.rank (rank_at c.args.source.nodes.now c.requires.source.arena c.args.source.at c.requires.source.node.within) in
    omega (arith, small, room, c.from.ensures, c.args.edge.same)

pub returns-then-new-kept-clause-after : goal.returns-then-new-kept-clause-after
returns-then-new-kept-clause-after c =
    let small : c.args.edge.link.now.metric < 2 ^ 32 = omega (arith, c.args.edge.same) in
    let index = link_index c.args.source.query.table.now c.args.source.query.request.now c.args.source.nodes.now c.args.source.at c.args.source.state c.requires.source.node c.args.edge.row c.args.edge.link.now c.requires.edge.row c.args.edge.end c.requires.edge.end c.requires.source.query.listed.few in
    let blank : Label = record { rank = 0; parent = 0; place = 0; row = 0 } in
    let read = rank_read c.args.labels.now (c.args.source.state - c.args.source.state % 1024 + c.args.edge.end) blank (omega (arith, index.low, c.requires.before.many)) in
    link_late c.args.source c.requires.source c.args.labels.now (heap_items c.args.heap.now) c.args.edge small c.requires.edge c.requires.before
    (inl (omega (arith, read, c.if-new-kept.true, c.requires.source.rank, c.from.ensures, c.args.edge.same)))

pub returns-then-key-last-clause-after : goal.returns-then-key-last-clause-after
returns-then-key-last-clause-after c =
    let small : c.args.edge.link.now.metric < 2 ^ 32 = omega (arith, c.args.edge.same) in
    let blank : Label = record { rank = 0; parent = 0; place = 0; row = 0 } in
    let read = rank_read c.args.labels.now c.args.source.goal.at blank (omega (arith, c.requires.source.goal.low, c.requires.before.many)) in
    link_late c.args.source c.requires.source c.args.labels.now (heap_items c.args.heap.now) c.args.edge small c.requires.edge c.requires.before
    (inr (omega (arith, read, c.if-key-last.true, c.requires.source.rank, c.from.ensures, c.args.edge.same, c.lift.ensures.value)))

pub returns-then-not-role-clause-after : goal.returns-then-not-role-clause-after
returns-then-not-role-clause-after c =
    let small : c.args.edge.link.now.metric < 2 ^ 32 = omega (arith, c.args.edge.same) in
    let index = link_index c.args.source.query.table.now c.args.source.query.request.now c.args.source.nodes.now c.args.source.at c.args.source.state c.requires.source.node c.args.edge.row c.args.edge.link.now c.requires.edge.row c.args.edge.end c.requires.edge.end c.requires.source.query.listed.few in
    let no_role : Role = record { enter = false; target = false } in
    let told = link_told c.args.source c.requires.source c.args.labels.now (heap_items c.args.heap.now) c.args.edge small c.requires.edge c.requires.before
    (slice_index_or c.args.source.query.roles.now (c.args.source.state - c.args.source.state % 1024 + c.args.edge.end) no_role)
    (c.requires.source.query.roles.each (c.args.source.state - c.args.source.state % 1024 + c.args.edge.end) no_role index) in
    link_off c.args.source c.requires.source c.args.labels.now (heap_items c.args.heap.now) c.args.edge small c.requires.edge c.requires.before
    (λ admitted enters. false≢true (sym (not-true _ c.if-not-role.true) ∙ told.1 enters))

pub returns-then-edge-eq-NO_LINK-clause-after : goal.returns-then-edge-eq-NO_LINK-clause-after
returns-then-edge-eq-NO_LINK-clause-after c =
    let small : c.args.edge.link.now.metric < 2 ^ 32 = omega (arith, c.args.edge.same) in
    link_off c.args.source c.requires.source c.args.labels.now (heap_items c.args.heap.now) c.args.edge small c.requires.edge c.requires.before
    (λ usable enters.
    elim c.then-edge-eq-NO_LINK.branch [
      | then-edge-eq-NO_LINK-via-then-edge-eq-NO_LINK w ↦ c.requires.edge.reverse.none w.if-edge-eq-NO_LINK.true usable.reverse
      | then-edge-eq-NO_LINK-via-else-edge-eq-NO_LINK+then-not-accepts w ↦ false≢true (w.if-not-accepts.ensures.1 usable.admitted)
    ])

pub overflow_cast-label-3 : goal.overflow_cast-label-3
overflow_cast-label-3 c =
    let d = c.args.source.query.table.now in
    let within = slice_get_within (links_from_index d (c.args.source.state % 1024)) c.args.edge.row c.args.edge.link.now c.requires.edge.row in
    let few = few_rows d c.requires.source.query.listed (c.args.source.state % 1024) in
    omega (arith, within, few)

-- The label that is offered to the state at the link's end. A state is a router in a leg, and a
-- label holds the best walk found so far to a state.
abbrev label_of : goal.After-offer-arg-3-1 → Label
label_of c = record { rank = c.args.source.rank + c.from.result * 16384 + 1; parent = c.args.source.at; place = c.args.source.state % 1024; row = c.args.edge.row }

rank_is : (c : goal.After-offer-arg-3-1) → (label_of c).rank ≡ (slice_index_or c.args.source.nodes.now c.args.source.at nowhere).rank + c.args.edge.link.now.metric * 16384 + 1
rank_is c = omega (arith, c.requires.source.rank, c.from.ensures, c.args.edge.same)

metric_fits : (c : goal.After-offer-arg-3-1) → c.args.edge.link.now.metric < 2 ^ 32
metric_fits c = omega (arith, c.args.edge.same)

pub offer-requires-clause-offered : goal.offer-requires-clause-offered
offer-requires-clause-offered c =
    link_offer c.args.source c.requires.source c.args.labels.now (heap_items c.args.heap.now) c.args.edge (metric_fits c) c.requires.edge c.requires.before (label_of c) refl refl refl (rank_is c)

pub offer-requires-clause-tied : goal.offer-requires-clause-tied
offer-requires-clause-tied c =
    link_tied c.args.source c.requires.source c.args.labels.now (heap_items c.args.heap.now) c.args.edge (metric_fits c) c.requires.edge c.requires.before (label_of c) refl refl refl (rank_is c)

pub returns-clause-after : goal.returns-clause-after
returns-clause-after c =
    let small : c.args.edge.link.now.metric < 2 ^ 32 = omega (arith, c.args.edge.same) in
    let label : Label = record { rank = c.args.source.rank + c.from.result * 16384 + 1; parent = c.args.source.at; place = c.args.source.state % 1024; row = c.args.edge.row } in
    let rank : c.args.source.rank + c.from.result * 16384 + 1 ≡ (slice_index_or c.args.source.nodes.now c.args.source.at nowhere).rank + c.args.edge.link.now.metric * 16384 + 1 =
    omega (arith, c.requires.source.rank, c.from.ensures, c.args.edge.same) in
    let index = link_index c.args.source.query.table.now c.args.source.query.request.now c.args.source.nodes.now c.args.source.at c.args.source.state c.requires.source.node c.args.edge.row c.args.edge.link.now c.requires.edge.row c.args.edge.end c.requires.edge.end c.requires.source.query.listed.few in
    let blank : Label = record { rank = 0; parent = 0; place = 0; row = 0 } in
    let read = rank_read c.args.labels.now (c.args.source.state - c.args.source.state % 1024 + c.args.edge.end) blank (omega (arith, index.low, c.requires.before.many)) in
    let no_role : Role = record { enter = false; target = false } in
    let told = link_told c.args.source c.requires.source c.args.labels.now (heap_items c.args.heap.now) c.args.edge small c.requires.edge c.requires.before
    (slice_index_or c.args.source.query.roles.now (c.args.source.state - c.args.source.state % 1024 + c.args.edge.end) no_role)
    (c.requires.source.query.roles.each (c.args.source.state - c.args.source.state % 1024 + c.args.edge.end) no_role index) in
    let le : c.args.source.rank + c.from.result * 16384 + 1 ≤ (label_at c.args.labels.now (c.args.source.state - c.args.source.state % 1024 + c.args.edge.end)).rank =
    omega (arith, read, c.if-new-kept.false) in
    let usable : IsUsable c.args.source.query.table.now c.args.source.query.request.now c.args.edge.link.now = record {
      admitted = c.if-not-accepts.ensures.0 refl;
      reverse = has_reverse c.args.source.query.table.now c.requires.source.query.links c.args.edge.link.now c.args.edge.reverse c.requires.edge.reverse c.if-edge-eq-NO_LINK.false;
    } in
    on_ok_weaker c.offer.result
    (link_taken c.args.source c.requires.source c.args.labels.now (heap_items c.args.heap.now) c.args.edge small c.requires.edge c.requires.before label refl refl refl rank
    usable c.requires.leaves (told.0 (not-false _ c.if-not-role.false)) le (c.args.source.rank + c.from.result * 16384 + 1 + c.lift.result) c.offer.new.labels
    (heap_items c.offer.new.heap) (ap (λ n. c.args.source.rank + c.from.result * 16384 + 1 + n) c.lift.ensures.value))
    c.offer.ensures.first
