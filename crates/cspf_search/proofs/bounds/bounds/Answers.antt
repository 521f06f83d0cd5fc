use Rattle.std.proofs.Common.{◌≡◌, ◌+◌, ◌*◌, ◌∙◌, length, replicate, arith}
use Rattle.cspf_search.proofs.LegBounds.{zero_bounds, zeros_at}
use Rattle.cspf_graph.proofs.Slices.{written_back}
use Rattle.cspf_search.proofs.bounds.bounds.Goals as goal

pub shut_broken-requires-clause-many : goal.shut_broken-requires-clause-many
shut_broken-requires-clause-many c = omega (arith, c.deref_mut.ensures.len, c.in_ok-bounds.ensures.len, c.requires.query.count)

pub shut_broken-requires-clause-zeros : goal.shut_broken-requires-clause-zeros
shut_broken-requires-clause-zeros c =
    let zeros : c.deref_mut.result.now ≡ replicate (c.args.query.legs * 1024) 0 = c.deref_mut.ensures.value ∙ c.in_ok-bounds.ensures.items_if_clones_equal (λ y e. e) in
    λ i. rw zeros (zeros_at (c.args.query.legs * 1024) i)

pub returns-then-shut_broken : goal.returns-then-shut_broken
returns-then-shut_broken c =
    let bounds = c.in_ok-bounds.bounds in
    let put = written_back bounds.len c.shut_broken.new.bounds c.deref_mut.result.now bounds.items c.shut_broken.auto.bounds c.deref_mut.ensures.value bounds.ok.0 in
    rw put (c.shut_broken.ensures.found c.if-shut_broken.true)

-- If `shut_broken` finds no strict leg that no route can pass, all bounds are still 0.
still_zeros : (c : goal.After-deref_mut-2) → c.deref_mut-2.result.now ≡ replicate (c.args.query.legs * 1024) 0
still_zeros c =
    let bounds = c.in_ok-bounds.bounds in
    let put = written_back bounds.len c.shut_broken.new.bounds c.deref_mut.result.now bounds.items c.shut_broken.auto.bounds c.deref_mut.ensures.value bounds.ok.0 in
    c.deref_mut-2.ensures.value ∙ put ∙ c.shut_broken.ensures.none c.if-shut_broken.false ∙ c.deref_mut.ensures.value ∙ c.in_ok-bounds.ensures.items_if_clones_equal (λ y e. e)

pub set_all-requires-clause-bounds : goal.set_all-requires-clause-bounds
set_all-requires-clause-bounds c =
    let zeros = still_zeros c in
    let long : length c.deref_mut-2.result.now ≡ (length c.args.query.request.now.hops + 1) * 1024 =
    omega (arith, c.deref_mut-2.ensures.len, c.in_ok-bounds.ensures.len, c.requires.query.count) in
    zero_bounds c.args.query.table.now c.args.query.request.now c.deref_mut-2.result.now long (λ i. rw zeros (zeros_at (c.args.query.legs * 1024) i))

pub set_all-requires-clause-zeros : goal.set_all-requires-clause-zeros
set_all-requires-clause-zeros c = λ i. rw (still_zeros c) (zeros_at (c.args.query.legs * 1024) i)
