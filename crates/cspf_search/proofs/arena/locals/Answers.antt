use Rattle.std.proofs.Common.{◌≡◌, Some, option_map, slice_index_or, sym, ap, ◌∙◌, arith}
use Rattle.cspf_search.proofs.Backs.{walk_back, behind_more, locals_more, locals_of_one}
use Rattle.cspf_search.proofs.arena.locals.Goals as goal

pub returns-then-x-y : goal.returns-then-x-y
returns-then-x-y c =
    let arms = c.in-Some-Some in
    let by_x : c.loop-step.x.now.by ≡ Some arms.l.now = sym c.get.ensures ∙ ap (option_map _) arms.is-0 in
    let by_y : c.loop-step.y.now.by ≡ Some arms.m.now = sym c.get-in-loop-step.ensures ∙ ap (option_map _) arms.is-1 in
    rw (c.then-found.ensures, c.cmp.ensures)
    (locals_of_one c.args.nodes.now c.loop-step.x.now c.loop-step.y.now arms.l.now arms.m.now c.loop-step.found _ by_x by_y c.if-x-y.true c.loop-step.invariant.same)

pub loop-step-preserved : goal.loop-step-preserved
loop-step-preserved c =
    let nodes = c.args.nodes.now in
    let before = c.loop-step.invariant in
    let arms = c.in-Some-Some in
    let by_x : c.loop-step.x.now.by ≡ Some arms.l.now = sym c.get.ensures ∙ ap (option_map _) arms.is-0 in
    let by_y : c.loop-step.y.now.by ≡ Some arms.m.now = sym c.get-in-loop-step.ensures ∙ ap (option_map _) arms.is-1 in
    let at_x = c.index-nodes-from.is ∙ ap (λ i. slice_index_or nodes i c.index-nodes-from.result) c.from.ensures in
    let at_y = c.index-nodes-from-in-loop-step.is ∙ ap (λ i. slice_index_or nodes i c.index-nodes-from-in-loop-step.result) c.from-in-loop-step.ensures in
    let x = walk_back nodes c.requires.arena c.loop-step.x.now c.index-nodes-from.result before.first.parent at_x arms.l.now by_x in
    let y = walk_back nodes c.requires.arena c.loop-step.y.now c.index-nodes-from-in-loop-step.result before.second.parent at_y arms.m.now by_y in
    let first =
    behind_more nodes c.requires.arena c.loop-step.x.now c.index-nodes-from.result before.first.parent at_x arms.l.now by_x c.loop-step._step c.links_in-count.result before.first in
    let second =
    behind_more nodes c.requires.arena c.loop-step.y.now c.index-nodes-from-in-loop-step.result before.second.parent at_y arms.m.now by_y c.loop-step._step c.links_in-count.result before.second in
    record {
      first = first;
      second = second;
      same = rw (c.then-found.ensures, c.cmp.ensures) (locals_more _ _ _ _ arms.l.now arms.m.now c.loop-step.found _ x y (omega (arith, first.left, second.left)) before.same);
    }
