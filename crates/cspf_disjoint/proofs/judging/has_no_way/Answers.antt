use Rattle.cspf_disjoint.specs.Potentials.{potentials_of}
use Rattle.cspf_disjoint.proofs.judging.has_no_way.Goals as goal

pub returns : goal.returns
returns c = λ yes. (c.ways_by_potentials.ensures c.args.table.now c.args.request.now (potentials_of c.args.table.now c.args.lists) (c.rises_without_excess.ensures.rises yes)).none
    (c.rises_without_excess.ensures.none yes)
