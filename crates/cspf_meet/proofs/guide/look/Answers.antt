use Rattle.std.proofs.Common.{◌≡◌, List, length, slice_get, slice_index, sym, ap, subst, ◌∙◌, arith, below_more}
use Rattle.std.proofs.lemmas.Option.{get_or_from_slice_get}
use Rattle.cspf_model.specs.Admissible.{IsAdmitted}
use Rattle.cspf_model.specs.declared.link.Link.{Link}
use Rattle.cspf_graph.proofs.LinkRows.{as_many}
use Rattle.cspf_meet.specs.declared.direction.Direction.TheVariants.{Ahead}
use Rattle.cspf_meet.specs.Guided.{IsLinkGuided, IsStepGuided}
use Rattle.cspf_walk.specs.Ways.{link_step}
use Rattle.cspf_meet.proofs.Guiding.{guided_falls_on, step_on}
use Rattle.cspf_meet.proofs.Looked.{steps_passed}
use Rattle.cspf_meet.proofs.guide.look.Goals as goal

pub returns-clause-passed : goal.returns-clause-passed
returns-clause-passed g c =
    let many = as_many c.args.query.table.now c.args.place c.ends_at-ends.result.now c.ends_at-ends.ensures.each in
    let links = ap (λ (ls : List Link). length ls) c.out_at-links.ensures in
    steps_passed c.args.query.table.now c.requires.query.listed c.args.query.request.now c.requires.query.links c.args.place c.ends_at-ends.result.now c.reverses_at-reverses.result.now
    c.ends_at-ends.ensures.within c.ends_at-ends.ensures.each c.reverses_at-reverses.ensures.each c.args.query.to Ahead c.requires.query.to
    (λ w step. IsStepGuided (g.B.LowerBounds.bound_of c.args.bounds.now) c.loop-row.guided.ranks.items c.loop-row.guided.most c.args.rank w step)
    (λ k low l here some admitted reach.
    c.loop-row.invariant.passed k (omega (arith, low, many, links, c.loop-row-test.false)) l (ap (λ (ls : List Link). slice_get ls k) c.out_at-links.ensures ∙ here) some admitted reach)

pub loop-row-preserved : goal.loop-row-preserved
loop-row-preserved g c =
    let bound = g.B.LowerBounds.bound_of c.args.bounds.now in
    let before = c.loop-row.invariant in
    let said = c.in_ok-pass.ensures in
    let ends = c.ends_at-ends.result.now in
    let reverses = c.reverses_at-reverses.result.now in
    record {
      falls = guided_falls_on bound c.args.guided.now c.loop-row.guided c.pass.new.guided before.falls said.falls;
      passed =
          below_more (λ k. IsLinkGuided c.args.query.table.now c.args.query.request.now bound c.out_at-links.result.now c.args.rank c.args.query.to k (slice_index ends k) (slice_index reverses k) c.pass.new.guided.ranks.items c.pass.new.guided.most) c.loop-row.row
          (λ k low l here some admitted reach. step_on bound c.loop-row.guided c.pass.new.guided said.falls c.args.rank _ _ (before.passed k low l here some admitted reach))
          (λ l here some admitted reach.
          let same : c.index-links-row.result ≡ l = c.index-links-row.is ∙ get_or_from_slice_get c.out_at-links.result.now c.loop-row.row l c.index-links-row.result here in
          subst (λ x. IsStepGuided bound c.pass.new.guided.ranks.items c.pass.new.guided.most c.args.rank (slice_index ends c.loop-row.row) (link_step x)) same
          (said.passed some (subst (IsAdmitted c.args.query.request.now) (sym same) admitted) reach));
    }
