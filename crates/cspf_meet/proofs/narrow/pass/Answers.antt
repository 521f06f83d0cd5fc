use Rattle.std.proofs.Common.{inl, sym, ap, subst, ◌∙◌, arith}
use Rattle.std.proofs.lemmas.Bool.{false≢true}
use Rattle.cspf_model.specs.Admissible.{IsAdmitted}
use Rattle.cspf_meet.specs.Looks.{MayReach}
use Rattle.cspf_walk.specs.Ways.{link_step}
use Rattle.cspf_meet.proofs.Looked.{link_read}
use Rattle.cspf_meet.proofs.narrow.pass.Goals as goal

pub returns-then-not-accepts-clause-passed : goal.returns-then-not-accepts-clause-passed
returns-then-not-accepts-clause-passed c l here some admitted reach =
    let same = link_read _ _ _ _ c.index-links-from.result l c.index-links-from.is c.links.ensures.sorted c.from.ensures here in
    absurd (false≢true (sym c.if-not-accepts.true ∙ c.accepts.ensures.1 (subst (IsAdmitted c.args.query.request.now) (sym same) admitted)))

pub returns-then-not-may_reach-clause-passed : goal.returns-then-not-may_reach-clause-passed
returns-then-not-may_reach-clause-passed c l here some admitted reach =
    absurd (false≢true (sym c.if-not-may_reach.true ∙ c.may_reach.ensures.1 (subst (MayReach c.args.query.table.now c.args.query.from) (sym c.from-from.ensures) reach)))

pub returns-clause-passed : goal.returns-clause-passed
returns-clause-passed c l here some admitted reach =
    let same = link_read _ _ _ _ c.index-links-from.result l c.index-links-from.is c.links.ensures.sorted c.from.ensures here in
    inl (omega (arith, c.in_ok-lower.ensures.rank, ap link_step same, c.step.ensures.value))
