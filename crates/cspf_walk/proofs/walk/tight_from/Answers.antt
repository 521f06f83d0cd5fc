use Rattle.std.proofs.Common.{◌≡◌, inl, inr, slice_get, refl, sym, ap, subst, ◌∙◌, arith}
use Rattle.std.proofs.lemmas.Bool.{cases_lt, false≢true}
use Rattle.std.proofs.lemmas.Option.{same_Some}
use Rattle.cspf_db.specs.Index.{links_from_index}
use Rattle.cspf_walk.specs.TightWalks.{IsTight}
use Rattle.cspf_graph.proofs.LinkRows.{beside_row}
use Rattle.cspf_walk.proofs.walk.tight_from.Goals as goal

pub is_tight-requires-clause-edge : goal.is_tight-requires-clause-edge
is_tight-requires-clause-edge g c =
    let x =
    beside_row c.args.query.table.now c.args.place c.out_at-links.result.now c.out_at-links.ensures c.ends_at-ends.result.now c.ends_at-ends.ensures.within c.ends_at-ends.ensures.each
    c.reverses_at-reverses.result.now c.reverses_at-reverses.ensures.each c.loop-row.row c.index-links-row.result c.from.result c.loop-row-test.true c.index-links-row.is c.from.ensures in
    record { row = x.0; end = x.1; reverse = x.2 }

pub returns-then-is_tight : goal.returns-then-is_tight
returns-then-is_tight g c =
    let x =
    beside_row c.args.query.table.now c.args.place c.out_at-links.result.now c.out_at-links.ensures c.ends_at-ends.result.now c.ends_at-ends.ensures.within c.ends_at-ends.ensures.each
    c.reverses_at-reverses.result.now c.reverses_at-reverses.ensures.each c.loop-row.row c.index-links-row.result c.from.result c.loop-row-test.true c.index-links-row.is c.from.ensures in
    record { is_edge = record { row = x.0; end = x.1; reverse = x.2 }; tight = c.if-is_tight.ensures.0 refl; slack = c.loop-row.invariant }

pub loop-row-preserved : goal.loop-row-preserved
loop-row-preserved g c row l lt here tight =
    let x =
    beside_row c.args.query.table.now c.args.place c.out_at-links.result.now c.out_at-links.ensures c.ends_at-ends.result.now c.ends_at-ends.ensures.within c.ends_at-ends.ensures.each
    c.reverses_at-reverses.result.now c.reverses_at-reverses.ensures.each c.loop-row.row c.index-links-row.result c.from.result c.loop-row-test.true c.index-links-row.is c.from.ensures in
    elim (cases_lt row c.loop-row.row) [
      | inl less ↦ c.loop-row.invariant row l less here tight
      | inr ge ↦
          let at : row ≡ c.loop-row.row = omega (arith, lt, ge) in
          let same : l ≡ c.index-links-row.result =
          same_Some l c.index-links-row.result (sym here ∙ ap (slice_get (links_from_index c.args.query.table.now c.args.place)) at ∙ x.0) in
          absurd (false≢true (c.if-is_tight.ensures.1 (subst (IsTight c.args.query.table.now c.args.query.request.now (g.B.LowerBounds.bound_of c.args.bounds.now) c.args.place) same tight)))
    ]
