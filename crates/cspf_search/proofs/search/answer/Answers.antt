use Rattle.std.proofs.Common.{arith}
use Rattle.cspf_search.proofs.Answered.{no_label, best_at, route_some, route_linked, walk_most}
use Rattle.cspf_search.proofs.search.answer.Goals as goal

pub returns-in_default : goal.returns-in_default
returns-in_default c =
    let q = c.args.query.request.now in
    let nodes = c.args.nodes.now in
    let left = no_label q nodes _ c.requires.query.count _ c.index_of.ensures c.in_default.is in
    (c.requires.ends, c.requires.searched.whole left)

pub route_to-requires-clause-some : goal.route_to-requires-clause-some
route_to-requires-clause-some c =
    let q = c.args.query.request.now in
    let best = best_at c.args.query.table.now q c.args.nodes.now c.requires.searched.settled _ c.requires.query.count _ _ c.index_of.ensures c.in-Some.is in
    route_some c.args.query.table.now q _ best.is_route

pub route_to-requires-clause-most : goal.route_to-requires-clause-most
route_to-requires-clause-most c =
    walk_most c.args.query.request.now c.args.nodes.now c.requires.searched.arena _ c.requires.query.count c.requires.query.most (omega (arith, c.requires.searched.few, c.requires.query.count)) _ _ c.index_of.ensures c.in-Some.is

pub route_to-requires-clause-linked : goal.route_to-requires-clause-linked
route_to-requires-clause-linked c =
    let q = c.args.query.request.now in
    let best = best_at c.args.query.table.now q c.args.nodes.now c.requires.searched.settled _ c.requires.query.count _ _ c.index_of.ensures c.in-Some.is in
    route_linked c.args.query.table.now q _ best.is_route

pub returns : goal.returns
returns c =
    let q = c.args.query.request.now in
    let best = best_at c.args.query.table.now q c.args.nodes.now c.requires.searched.settled _ c.requires.query.count _ _ c.index_of.ensures c.in-Some.is in
    (c.requires.ends, rw c.in_ok-route_to.ensures best)
