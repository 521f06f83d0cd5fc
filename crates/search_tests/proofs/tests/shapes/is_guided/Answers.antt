use Rattle.std.proofs.Common.{refl}
use Rattle.cspf_search.proofs.Trees.{bounds_of_tree}
use Rattle.search_tests.proofs.tests.shapes.is_guided.Goals as goal

pub best_by_bounds-requires : goal.best_by_bounds-requires
best_by_bounds-requires c =
    let known = rw c.in-Some.is at c.in_ok-tree.ensures.known in
    bounds_of_tree c.args.table.now c.args.request.now c.in-Some.tree (known c.args.request.now (record { to = refl; exclude_any = refl; include_any = refl; include_all = refl }))
