use Rattle.cspf_search.proofs.Trees.{bounds_of_tree}
use Rattle.cspf_search.proofs.search.best_by_walk.Goals as goal

pub returns-in_default-place_of : goal.returns-in_default-place_of
returns-in_default-place_of c = (
  c.listed.ensures.known c.args.request.now.from c.in-Some.head_end (record { within = c.in-Some.ensures.bound; is = c.in-Some.ensures.some }),
  c.in_default-place_of.ensures.none,
)

pub follow-requires-clause-bounds : goal.follow-requires-clause-bounds
follow-requires-clause-bounds c = bounds_of_tree c.args.table.now c.args.request.now c.args.tree.now c.requires

pub returns : goal.returns
returns c = (
  record {
    from = c.listed.ensures.known c.args.request.now.from c.in-Some.head_end (record { within = c.in-Some.ensures.bound; is = c.in-Some.ensures.some });
    to = c.listed.ensures.known c.args.request.now.to c.in-Some-place_of.tail_end (record { within = c.in-Some-place_of.ensures.bound; is = c.in-Some-place_of.ensures.some });
  },
  rw c.in-Some-2.is at c.in_ok-route.ensures,
)
