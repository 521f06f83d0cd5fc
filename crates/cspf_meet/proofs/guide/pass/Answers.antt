use Rattle.std.proofs.Common.{◌≡◌, ◌+◌, inl, ap, arith}
use Rattle.cspf_meet.specs.Labels.{rank_at}
use Rattle.cspf_meet.proofs.Guiding.{guided_falls_on}
use Rattle.cspf_meet.proofs.guide.pass.Goals as goal

pub returns-clause-falls : goal.returns-clause-falls
returns-clause-falls g c =
    let bound = g.B.LowerBounds.bound_of c.args.bounds.now in
    let over : c.args.rank + c.step.result + c.bound.result ≡ c.args.rank + c.step.result + g.B.LowerBounds.bound_of c.args.bounds.now c.args.place = omega (arith, c.bound.ensures.value, ap bound c.from-end.ensures) in
    guided_falls_on bound c.args.guided.now c.lower.new.self c.meet.new.self (c.in_ok-lower.ensures.falls bound over) (c.meet.ensures.falls bound)

pub returns-clause-passed : goal.returns-clause-passed
returns-clause-passed g c some admitted reach =
    inl (omega (arith, ap (λ rs. rank_at rs.items c.args.place) c.meet.ensures.ranks, c.in_ok-lower.ensures.rank, c.step.ensures))
