use Rattle.std.proofs.Common.{◌≡◌, ◌+◌, ◌-◌, ◌/◌, ◌%◌, ◌<◌, IsTrue, length, slice_index_or, subst, arith}
use Rattle.std.proofs.lemmas.List.{take_all}
use Rattle.cspf_graph.specs.Roles.{IsStateIndex}
use Rattle.cspf_search.specs.Frontier.{label_at}
use Rattle.cspf_graph.specs.RoleSteps.{nothing}
use Rattle.cspf_search.proofs.LegTargets.{read_targets, role_turns}
use Rattle.cspf_search.proofs.floor.are_settled.Goals as goal

pub returns : goal.returns
returns c _ i place same target =
    let d = c.args.query.table.now in
    let q = c.args.query.request.now in
    let roles = c.args.query.roles.now in
    let leg = c.args.at / 1024 in
    let places = c.deref-place-items.result.now in
    let within : leg < length q.hops = omega (arith, c.if-at-query.false, c.requires.query.targets.many) in
    let ix : IsStateIndex d q i = record { low = omega (arith, same, within); place = place } in
    let are = read_targets d q c.args.query.targets.now leg c.index-query-at.result places c.requires.query.targets within c.deref-place-items.ensures.value in
    let turns = role_turns d q roles c.requires.query.roles i ix target in
    let listed = (are.each (i % 1024) place).1 (rw same at turns).target in
    let here : c.args.at - c.args.at % 1024 + i % 1024 ≡ i = omega (arith, same) in
    let all = take_all c.loop-place.place-index places c.loop-place-test.false in
    let settled = c.loop-place.invariant (i % 1024) (rw all listed) in
    subst (λ k. IsTrue (slice_index_or roles k nothing).target → (label_at c.args.labels.now k).rank ≡ 0) here settled target
