use Rattle.std.proofs.Common.{◌+◌, ◌/◌, ◌%◌, ◌<◌, ◌≤◌, inl, inr, false, length, refl, sym, ap, ◌∙◌, heap_items, arith}
use Rattle.std.proofs.lemmas.Bool.{false≢true, not-true, not-false}
use Rattle.std.proofs.lemmas.Result.{on_ok_weaker}
use Rattle.cspf_search.specs.declared.labels.Label.{Label}
use Rattle.cspf_graph.specs.declared.roles.Role.{Role}
use Rattle.cspf_search.specs.Frontier.{label_at}
use Rattle.cspf_search.proofs.Expanded.{turn_index}
use Rattle.cspf_search.proofs.Heaps.{rank_read}
use Rattle.cspf_search.proofs.Taken.{turn_off, turn_late, turn_offer, turn_tied, turn_taken}
use Rattle.cspf_search.proofs.frontier.offer_turn.Goals as goal

pub returns-then-state-len-clause-after : goal.returns-then-state-len-clause-after
returns-then-state-len-clause-after c =
    turn_off c.args.source c.requires.source c.args.labels.now
    (heap_items c.args.heap.now) c.requires.before (λ h target. omega (arith, c.len.ensures.value))

pub returns-then-not-role-clause-after : goal.returns-then-not-role-clause-after
returns-then-not-role-clause-after c =
    let no_role : Role = record { enter = false; target = false } in
    let told = c.requires.source.query.roles.each c.args.source.state no_role c.requires.source.node.index in
    turn_off c.args.source c.requires.source c.args.labels.now
    (heap_items c.args.heap.now) c.requires.before (λ h target. false≢true (sym (not-true _ c.if-not-role.true) ∙ told.target.1 target))

pub returns-then-rank-kept-clause-after : goal.returns-then-rank-kept-clause-after
returns-then-rank-kept-clause-after c =
    let h : c.args.source.state / 1024 < length c.args.source.query.request.now.hops = omega (arith, c.len.ensures.value) in
    let index = turn_index c.args.source.query.table.now c.args.source.query.request.now c.args.source.nodes.now c.args.source.at c.args.source.state c.requires.source.node h in
    let blank : Label = record { rank = 0; parent = 0; place = 0; row = 0 } in
    let read = rank_read c.args.labels.now (c.args.source.state + 1024) blank (omega (arith, index.low, c.requires.before.many)) in
    turn_late c.args.source c.requires.source c.args.labels.now
    (heap_items c.args.heap.now) c.requires.before h (inl (omega (arith, read, c.if-rank-kept.true, c.requires.source.rank)))

pub returns-then-last-key-clause-after : goal.returns-then-last-key-clause-after
returns-then-last-key-clause-after c =
    let h : c.args.source.state / 1024 < length c.args.source.query.request.now.hops = omega (arith, c.len.ensures.value) in
    let blank : Label = record { rank = 0; parent = 0; place = 0; row = 0 } in
    let read = rank_read c.args.labels.now c.args.source.goal.at blank (omega (arith, c.requires.source.goal.low, c.requires.before.many)) in
    turn_late c.args.source c.requires.source c.args.labels.now
    (heap_items c.args.heap.now) c.requires.before h (inr (omega (arith, read, c.if-last-key.true, c.requires.source.rank, c.lift.ensures.value)))

pub offer-requires-clause-offered : goal.offer-requires-clause-offered
offer-requires-clause-offered c =
    let label : Label = record { rank = c.args.source.rank; parent = c.args.source.at; place = c.args.source.state % 1024; row = 65535 } in
    turn_offer c.args.source c.requires.source c.args.labels.now
    (heap_items c.args.heap.now) c.requires.before label refl refl refl c.requires.source.rank

pub offer-requires-clause-tied : goal.offer-requires-clause-tied
offer-requires-clause-tied c =
    let h : c.args.source.state / 1024 < length c.args.source.query.request.now.hops = omega (arith, c.len.ensures.value) in
    let label : Label = record { rank = c.args.source.rank; parent = c.args.source.at; place = c.args.source.state % 1024; row = 65535 } in
    turn_tied c.args.source c.requires.source c.args.labels.now
    (heap_items c.args.heap.now) c.requires.before label refl refl refl c.requires.source.rank h

pub returns-clause-after : goal.returns-clause-after
returns-clause-after c =
    let h : c.args.source.state / 1024 < length c.args.source.query.request.now.hops = omega (arith, c.len.ensures.value) in
    let label : Label = record { rank = c.args.source.rank; parent = c.args.source.at; place = c.args.source.state % 1024; row = 65535 } in
    let no_role : Role = record { enter = false; target = false } in
    let told = c.requires.source.query.roles.each c.args.source.state no_role c.requires.source.node.index in
    let index = turn_index c.args.source.query.table.now c.args.source.query.request.now c.args.source.nodes.now c.args.source.at c.args.source.state c.requires.source.node h in
    let blank : Label = record { rank = 0; parent = 0; place = 0; row = 0 } in
    let read = rank_read c.args.labels.now (c.args.source.state + 1024) blank (omega (arith, index.low, c.requires.before.many)) in
    let le : c.args.source.rank ≤ (label_at c.args.labels.now (c.args.source.state + 1024)).rank = omega (arith, read, c.if-rank-kept.false) in
    on_ok_weaker c.offer.result
    (turn_taken c.args.source c.requires.source c.args.labels.now
    (heap_items c.args.heap.now) c.requires.before label refl refl refl c.requires.source.rank h (told.target.0 (not-false _ c.if-not-role.false)) le (c.args.source.rank + c.lift.result) c.offer.new.labels
    (heap_items c.offer.new.heap) (ap (λ n. c.args.source.rank + n) c.lift.ensures.value))
    c.offer.ensures.first
