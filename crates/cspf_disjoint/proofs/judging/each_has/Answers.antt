use Rattle.cspf_disjoint.specs.Potentials.{potentials_of}
use Rattle.cspf_disjoint.proofs.judging.each_has.Goals as goal

pub returns : goal.returns
returns c = λ yes. (c.ways_by_potentials.ensures c.args.table.now c.args.request.now (potentials_of c.args.table.now c.args.lists) (c.rises_without_excess.ensures.rises yes)).link
    c.args.link.now c.requires (c.rises_without_excess.ensures.none yes)
