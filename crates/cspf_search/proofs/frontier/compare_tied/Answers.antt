use Rattle.std.proofs.Common.{◌≡◌, ◌++◌, Some, List, [], ◌∷◌, option_map, slice_get, slice_index_or, sym, ap, ◌∙◌, arith}
use Rattle.cspf_model.specs.Database.{Database}
use Rattle.cspf_model.specs.declared.link.Link.{Link}
use Rattle.cspf_db.specs.Index.{links_from_index}
use Rattle.cspf_search.specs.declared.arena.Node.{Node}
use Rattle.cspf_search.specs.declared.labels.Label.{Label}
use Rattle.cspf_search.specs.Arena.{walk_at, walks, walk_of}
use Rattle.cspf_search.specs.Frontier.{node_by, node_of, nowhere}
use Rattle.cspf_search.proofs.Backs.{locals_by, locals_by_one, one_more}
use Rattle.cspf_search.proofs.Ranks.{one_length}
use Rattle.cspf_search.proofs.frontier.compare_tied.Goals as goal

-- If the row of a label is the index of a link, the label's walk is the walk of its parent node
-- with this link appended. A node is the record of a walk, and a label holds the best walk found so
-- far to a state.
walk_by : (d : Database) (nodes : List Node) (a : Label) (l : Link) → slice_get (links_from_index d a.place) a.row ≡ Some l
    → walk_of nodes (node_of d nodes a) ≡ walk_at (walks nodes) a.parent ++ (l ∷ [])
walk_by d nodes a l by = ap (λ by. walk_of nodes (node_by a.parent (slice_index_or nodes a.parent nowhere) by)) by

pub locals-requires-clause-as_many : goal.locals-requires-clause-as_many
locals-requires-clause-as_many c =
    let d = c.args.table.now in
    let nodes = c.args.nodes.now in
    rw (c.node_of.ensures, c.node_of-in_default.ensures)
    (one_length nodes c.requires.arena (node_of d nodes c.args.a.now) (node_of d nodes c.args.b.now) c.requires.tied.other.next c.requires.offered.next c.requires.tied.rank)

pub locals-requires-2-clause-as_many : goal.locals-requires-2-clause-as_many
locals-requires-2-clause-as_many c =
    let d = c.args.table.now in
    let nodes = c.args.nodes.now in
    let a = c.args.a.now in
    let b = c.args.b.now in
    let arms = c.in-Some-Some in
    let l = arms.l.now in
    let m = arms.m.now in
    let walk_a = walk_by d nodes a l (sym c.link_of.ensures ∙ ap (option_map _) arms.is-0) in
    let walk_b = walk_by d nodes b m (sym c.link_of-2.ensures ∙ ap (option_map _) arms.is-1) in
    let more_a =
    one_more nodes c.requires.arena c.index-nodes-from.result a.parent c.requires.tied.other.parent
    (c.index-nodes-from.is ∙ ap (λ i. slice_index_or nodes i c.index-nodes-from.result) c.from.ensures) (walk_of nodes (node_of d nodes a)) l walk_a in
    let more_b =
    one_more nodes c.requires.arena c.index-nodes-from-2.result b.parent c.requires.offered.parent
    (c.index-nodes-from-2.is ∙ ap (λ i. slice_index_or nodes i c.index-nodes-from-2.result) c.from-2.ensures) (walk_of nodes (node_of d nodes b)) m walk_b in
    let tied = one_length nodes c.requires.arena (node_of d nodes a) (node_of d nodes b) c.requires.tied.other.next c.requires.offered.next c.requires.tied.rank in
    omega (arith, more_a, more_b, tied)

pub returns : goal.returns
returns c =
    let d = c.args.table.now in
    let nodes = c.args.nodes.now in
    let a = c.args.a.now in
    let b = c.args.b.now in
    let arms = c.in-Some-Some in
    let l = arms.l.now in
    let m = arms.m.now in
    let walk_a = walk_by d nodes a l (sym c.link_of.ensures ∙ ap (option_map _) arms.is-0) in
    let walk_b = walk_by d nodes b m (sym c.link_of-2.ensures ∙ ap (option_map _) arms.is-1) in
    rw (c.then.ensures, c.cmp-2.ensures, c.locals-2.ensures)
    (sym (locals_by nodes c.requires.arena c.index-nodes-from.result c.index-nodes-from-2.result a.parent b.parent c.requires.tied.other.parent c.requires.offered.parent
    (c.index-nodes-from.is ∙ ap (λ i. slice_index_or nodes i c.index-nodes-from.result) c.from.ensures)
    (c.index-nodes-from-2.is ∙ ap (λ i. slice_index_or nodes i c.index-nodes-from-2.result) c.from-2.ensures)
    (walk_of nodes (node_of d nodes a)) (walk_of nodes (node_of d nodes b)) l m walk_a walk_b
    (one_length nodes c.requires.arena (node_of d nodes a) (node_of d nodes b) c.requires.tied.other.next c.requires.offered.next c.requires.tied.rank)))

pub returns-then-a-b : goal.returns-then-a-b
returns-then-a-b c =
    let d = c.args.table.now in
    let nodes = c.args.nodes.now in
    let a = c.args.a.now in
    let b = c.args.b.now in
    let arms = c.in-Some-Some in
    let l = arms.l.now in
    let m = arms.m.now in
    let walk_a = walk_by d nodes a l (sym c.link_of.ensures ∙ ap (option_map _) arms.is-0) in
    let walk_b = walk_by d nodes b m (sym c.link_of-2.ensures ∙ ap (option_map _) arms.is-1) in
    rw c.cmp.ensures
    (sym (locals_by_one nodes a.parent b.parent c.if-a-b.true (walk_of nodes (node_of d nodes a)) (walk_of nodes (node_of d nodes b)) l m walk_a walk_b))
