use Rattle.std.proofs.Common.{◌≡◌, ◌+◌, refl, arith}
use Rattle.cspf_walk.specs.Ways.{link_step}
use Rattle.cspf_walk.proofs.TightWalks.{tight_is, tight_over}
use Rattle.cspf_walk.proofs.walk.is_tight.Goals as goal

pub returns-then-accepts : goal.returns-then-accepts
returns-then-accepts g c =
    let d = c.args.query.table.now in
    let q = c.args.query.request.now in
    let falls : g.B.LowerBounds.bound_of c.args.bounds.now c.args.place ≡ link_step c.args.edge.link.now + g.B.LowerBounds.bound_of c.args.bounds.now c.args.edge.end =
    omega (arith, c.if-step-bound.false, c.requires.left, c.step.ensures.value, c.bound.ensures.value) in (
      λ over.
          tight_is d q (g.B.LowerBounds.bound_of c.args.bounds.now) c.requires.query.listed c.requires.query.links c.args.place c.args.edge c.requires.edge falls c.if-edge-eq-NO_LINK.false
          (c.if-accepts.ensures.0 refl) (c.may_lead_over.ensures.0 over),
      λ tight.
          c.may_lead_over.ensures.1
          (tight_over d q (g.B.LowerBounds.bound_of c.args.bounds.now) c.requires.query.listed c.requires.query.links c.args.place c.args.edge c.requires.edge tight),
    )
