use Rattle.std.proofs.Common.{◌+◌, ◌-◌, ◌%◌, ◌^◌, ◌<◌, false, length, refl, sym, ap, subst, ◌∙◌, arith}
use Rattle.std.proofs.lemmas.Bool.{false≢true, not-true, not-false}
use Rattle.std.proofs.lemmas.List.{get_or_read}
use Rattle.std.proofs.lemmas.Option.{slice_get_read}
use Rattle.cspf_search.specs.declared.arena.Node.{Node}
use Rattle.cspf_graph.specs.declared.roles.Role.{Role}
use Rattle.cspf_search.specs.Arena.{IsNext}
use Rattle.cspf_search.specs.Frontier.{nowhere}
use Rattle.cspf_search.proofs.Expanded.{link_index}
use Rattle.cspf_search.proofs.Backs.{by_next}
use Rattle.cspf_search.proofs.Ranks.{rank_at}
use Rattle.cspf_search.proofs.Looked.{along, no_link, link_late, link_kept}
use Rattle.cspf_graph.proofs.LinkRows.{has_reverse}
use Rattle.cspf_search.proofs.rounds.look_at_link.Goals.{then-edge-eq-NO_LINK-via-then-edge-eq-NO_LINK, then-edge-eq-NO_LINK-via-else-edge-eq-NO_LINK+then-not-accepts}
use Rattle.cspf_search.proofs.rounds.look_at_link.Goals as goal

pub overflow_add-rank : goal.overflow_add-rank
overflow_add-rank c =
    let from = get_or_read c.args.look.nodes.now c.args.look.at c.index-nodes-look.result c.requires.look.from.within c.index-nodes-look.is nowhere in
    let room = rank_at c.args.look.nodes.now c.requires.look.arena c.args.look.at c.requires.look.from.within in
    omega (arith, c.weight.ensures.small, ap (λ (n : Node). n.rank) from, room)

pub overflow_add-rank-2 : goal.overflow_add-rank-2
overflow_add-rank-2 c =
    let from = get_or_read c.args.look.nodes.now c.args.look.at c.index-nodes-look.result c.requires.look.from.within c.index-nodes-look.is nowhere in
    let room = rank_at c.args.look.nodes.now c.requires.look.arena c.args.look.at c.requires.look.from.within in
    omega (arith, c.weight.ensures.small, ap (λ (n : Node). n.rank) from, room)

pub returns-then-is_late : goal.returns-then-is_late
returns-then-is_late c =
    let small : c.args.edge.link.now.metric < 2 ^ 32 = omega arith in
    let from = get_or_read c.args.look.nodes.now c.args.look.at c.index-nodes-look.result c.requires.look.from.within c.index-nodes-look.is nowhere in
    record {
      after =
          link_late c.args.look.query.table.now c.args.look.query.request.now c.args.look.nodes.now c.requires.look.arena c.args.look.at c.args.look.star.state c.requires.look.from c.args.best.now c.args.edge.row c.args.edge.link.now c.requires.edge.row
          c.args.edge.end c.requires.edge.end c.requires.look.query.listed.few c.requires.before small c.index-nodes-look.result from c.weight.result c.weight.ensures.value (c.if-is_late.ensures.0 refl);
    }

pub returns-then-not-role : goal.returns-then-not-role
returns-then-not-role c =
    let d = c.args.look.query.table.now in
    let q = c.args.look.query.request.now in
    let nodes = c.args.look.nodes.now in
    let index = link_index d q nodes c.args.look.at c.args.look.star.state c.requires.look.from c.args.edge.row c.args.edge.link.now c.requires.edge.row c.args.edge.end c.requires.edge.end c.requires.look.query.listed.few in
    let no_role : Role = record { enter = false; target = false } in
    let told = c.requires.look.query.roles.each (c.args.look.star.state - c.args.look.star.state % 1024 + c.args.edge.end) no_role index in
    record {
      after =
          no_link d q nodes c.requires.look.arena c.args.look.at c.args.look.star.state c.requires.look.from c.args.best.now c.args.edge.row c.args.edge.link.now c.requires.edge.row
          c.args.edge.end c.requires.edge.end c.requires.look.query.listed.few c.requires.before
          (λ usable enters. false≢true (sym (not-true _ c.if-not-role.true) ∙ told.enter.1 enters));
    }

pub returns-then-edge-eq-NO_LINK : goal.returns-then-edge-eq-NO_LINK
returns-then-edge-eq-NO_LINK c = record {
  after =
      no_link c.args.look.query.table.now c.args.look.query.request.now c.args.look.nodes.now c.requires.look.arena c.args.look.at c.args.look.star.state c.requires.look.from c.args.best.now c.args.edge.row c.args.edge.link.now c.requires.edge.row
      c.args.edge.end c.requires.edge.end c.requires.look.query.listed.few c.requires.before (λ usable enters.
      elim c.then-edge-eq-NO_LINK.branch [
        | then-edge-eq-NO_LINK-via-then-edge-eq-NO_LINK w ↦ c.requires.edge.reverse.none w.if-edge-eq-NO_LINK.true usable.reverse
        | then-edge-eq-NO_LINK-via-else-edge-eq-NO_LINK+then-not-accepts w ↦ false≢true (w.if-not-accepts.ensures.1 usable.admitted)
      ]);
}

pub keep-requires-clause-second : goal.keep-requires-clause-second
keep-requires-clause-second c =
    let small : c.args.edge.link.now.metric < 2 ^ 32 = omega arith in
    let from = c.index-nodes-look.result in
    let there = slice_get_read c.args.look.nodes.now (length c.args.look.nodes.now) c.args.look.at from refl c.requires.look.from.within c.index-nodes-look.is in
    subst (λ m. IsNext c.args.look.nodes.now (along c.args.look.at c.index-nodes-look.result c.args.edge.link.now m)) (sym c.weight.ensures.value)
    (by_next c.args.look.query.table.now c.args.look.query.request.now c.args.look.nodes.now c.requires.look.arena c.args.look.at c.requires.look.from.within from there c.args.edge.link.now small)

pub returns : goal.returns
returns c =
    let d = c.args.look.query.table.now in
    let q = c.args.look.query.request.now in
    let nodes = c.args.look.nodes.now in
    let small : c.args.edge.link.now.metric < 2 ^ 32 = omega arith in
    let index = link_index d q nodes c.args.look.at c.args.look.star.state c.requires.look.from c.args.edge.row c.args.edge.link.now c.requires.edge.row c.args.edge.end c.requires.edge.end c.requires.look.query.listed.few in
    let no_role : Role = record { enter = false; target = false } in
    let told = c.requires.look.query.roles.each (c.args.look.star.state - c.args.look.star.state % 1024 + c.args.edge.end) no_role index in
    let from = get_or_read nodes c.args.look.at c.index-nodes-look.result c.requires.look.from.within c.index-nodes-look.is nowhere in
    record {
      after =
          rw c.keep.ensures
          (link_kept d q nodes c.requires.look.arena c.args.look.at c.args.look.star.state c.requires.look.from c.args.best.now c.args.edge.row c.args.edge.link.now c.requires.edge.row c.args.edge.end c.requires.edge.end
          c.requires.look.query.listed.few c.requires.before small c.requires.left (record { admitted = c.if-not-accepts.ensures.0 refl; reverse = has_reverse d c.requires.look.query.links c.args.edge.link.now c.args.edge.reverse c.requires.edge.reverse c.if-edge-eq-NO_LINK.false }) c.requires.leaves (told.enter.0 (not-false _ c.if-not-role.false))
          c.index-nodes-look.result from c.weight.result c.weight.ensures.value);
    }
