use Rattle.std.proofs.Common.{◌<◌, length, ap, arith}
use Rattle.std.proofs.lemmas.List.{get_or_read}
use Rattle.cspf_search.specs.declared.arena.Node.{Node}
use Rattle.cspf_search.specs.Frontier.{nowhere}
use Rattle.cspf_search.proofs.Ranks.{rank_at}
use Rattle.cspf_search.proofs.labels.node_of.Goals as goal

pub overflow_add-result : goal.overflow_add-result
overflow_add-result c =
    let within : c.from.result < length c.args.nodes.now = omega (arith, c.from.ensures, c.requires.parent) in
    let from = get_or_read c.args.nodes.now c.from.result c.index-nodes-from.result within c.index-nodes-from.is nowhere in
    let room = rank_at c.args.nodes.now c.requires.arena c.from.result within in
    omega (arith, c.weight.ensures.small, ap (λ (n : Node). n.rank) from, room)

pub overflow_add-result-in-Some : goal.overflow_add-result-in-Some
overflow_add-result-in-Some c =
    let within : c.from.result < length c.args.nodes.now = omega (arith, c.from.ensures, c.requires.parent) in
    let from = get_or_read c.args.nodes.now c.from.result c.index-nodes-from.result within c.index-nodes-from.is nowhere in
    let room = rank_at c.args.nodes.now c.requires.arena c.from.result within in
    omega (arith, c.weight.ensures.small, ap (λ (n : Node). n.rank) from, room)
