use Rattle.std.proofs.Common.{◌+◌, ◌/◌, ◌<◌, false, length, sym, ◌∙◌, arith}
use Rattle.std.proofs.lemmas.Bool.{false≢true, not-true, not-false}
use Rattle.std.proofs.lemmas.List.{get_or_read}
use Rattle.cspf_graph.specs.declared.roles.Role.{Role}
use Rattle.cspf_search.specs.Frontier.{nowhere}
use Rattle.cspf_search.proofs.Expanded.{turn_index}
use Rattle.cspf_search.proofs.Looked.{no_turn, turn_settled, turn_kept}
use Rattle.cspf_search.proofs.rounds.look_at_turn.Goals as goal

pub returns-then-state-len : goal.returns-then-state-len
returns-then-state-len c =
    no_turn c.args.look.query.table.now c.args.look.query.request.now c.args.look.nodes.now c.requires.look.arena c.args.look.at c.args.look.star.state c.requires.look.from
    (λ h target. omega (arith, c.len.ensures.value, c.if-state-len.true))

pub returns-then-marks-state : goal.returns-then-marks-state
returns-then-marks-state c =
    let d = c.args.look.query.table.now in
    let q = c.args.look.query.request.now in
    let nodes = c.args.look.nodes.now in
    let h : c.args.look.star.state / 1024 < length c.args.look.query.request.now.hops = omega (arith, c.len.ensures.value) in
    let index = turn_index d q nodes c.args.look.at c.args.look.star.state c.requires.look.from h in
    turn_settled d q nodes c.requires.look.arena c.args.look.at c.args.look.star.state c.requires.look.from
    (sym (c.requires.look.marks.each (c.args.look.star.state + 1024) false index) ∙ c.if-marks-state.true)

pub returns-then-not-role : goal.returns-then-not-role
returns-then-not-role c =
    let no_role : Role = record { enter = false; target = false } in
    let told = c.requires.look.query.roles.each c.args.look.star.state no_role c.requires.look.from.index in
    no_turn c.args.look.query.table.now c.args.look.query.request.now c.args.look.nodes.now c.requires.look.arena c.args.look.at c.args.look.star.state c.requires.look.from
    (λ h target. false≢true (sym (not-true _ c.if-not-role.true) ∙ told.target.1 target))

pub returns : goal.returns
returns c =
    let d = c.args.look.query.table.now in
    let q = c.args.look.query.request.now in
    let nodes = c.args.look.nodes.now in
    let h : c.args.look.star.state / 1024 < length c.args.look.query.request.now.hops = omega (arith, c.len.ensures.value) in
    let index = turn_index d q nodes c.args.look.at c.args.look.star.state c.requires.look.from h in
    let no_role : Role = record { enter = false; target = false } in
    let told = c.requires.look.query.roles.each c.args.look.star.state no_role c.requires.look.from.index in
    let from = get_or_read nodes c.args.look.at c.index-nodes-look.result c.requires.look.from.within c.index-nodes-look.is nowhere in
    rw c.same.ensures
    (turn_kept d q nodes c.requires.look.arena c.args.look.at c.args.look.star.state c.requires.look.from h
    (told.target.0 (not-false _ c.if-not-role.false)) (sym (c.requires.look.marks.each (c.args.look.star.state + 1024) false index) ∙ c.if-marks-state.false)
    c.index-nodes-look.result from)
