use Rattle.std.proofs.Common.{◌<◌, length, slice_index, subst, arith}
use Rattle.cspf_db.specs.Index.{links_from_index}
use Rattle.cspf_search.specs.TreeSteps.{IsLinkPassed}
use Rattle.cspf_search.proofs.Looked.{some_at}
use Rattle.cspf_graph.proofs.LinkRows.{as_many, found_back}
use Rattle.cspf_search.proofs.tree_steps.walk.Goals as goal

pub pass-requires-clause-within : goal.pass-requires-clause-within
pass-requires-clause-within c =
    let d = c.args.table.now in
    let many = as_many d c.args.to c.ends_at-ends.result.now c.ends_at-ends.ensures.each in
    let row : c.loop-row.row < length (links_from_index c.args.table.now c.args.to) = omega (arith, many, c.loop-row-test.true) in
    (c.reverses_at-reverses.ensures.each c.loop-row.row (some_at (links_from_index d c.args.to) c.loop-row.row row).0 row).within

pub returns-clause-passed : goal.returns-clause-passed
returns-clause-passed c u l in_class from end =
    let many = as_many _ _ _ c.ends_at-ends.ensures.each in
    let x =
    found_back _ c.requires.links c.requires.listed _ _ _ c.ends_at-ends.ensures.within c.ends_at-ends.ensures.each c.reverses_at-reverses.ensures.each l
    in_class.link in_class.reverse u from end in
    let passed = c.loop-row.invariant.passed x.0 (omega (arith, x.1, many, c.loop-row-test.false)) in
    subst (λ i. IsLinkPassed c.args.table.now c.args.any.now c.args.base c.args.count c.loop-row.ring i (slice_index c.reverses_at-reverses.result.now x.0)) x.2 passed l x.3 in_class.affinity
