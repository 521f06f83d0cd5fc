use Rattle.std.proofs.Common.{arith}
use Rattle.cspf_disjoint.specs.Potentials.{potentials_of}
use Rattle.cspf_disjoint.proofs.judging.is_least.Goals as goal

pub returns-in-Some : goal.returns-in-Some
returns-in-Some c = λ yes.
    let bound = c.in-Some.ensures yes in
    c.least_by_potentials.ensures c.args.table.now c.args.request.now c.args.kind (potentials_of c.args.table.now c.args.lists) bound.excess c.links-rows.result.now
    c.links-rows.ensures.listed (omega (arith, c.links-rows.ensures.most)) c.requires.fits bound.bounds c.args.one.now c.args.other.now c.requires.pair bound.within
