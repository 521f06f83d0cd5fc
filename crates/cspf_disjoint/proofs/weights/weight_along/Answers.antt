use Rattle.std.proofs.Common.{sum_by, ap, arith}
use Rattle.std.proofs.lemmas.List.{take_all}
use Rattle.cspf_model.specs.Walks.{routers_passed}
use Rattle.cspf_pair.specs.Potentials.{by_size}
use Rattle.cspf_pair.proofs.Bounds.{no_weight}
use Rattle.cspf_disjoint.proofs.weights.weight_along.Goals as goal

pub returns : goal.returns
returns c =
    let whole = ap (sum_by by_size.of_link) (take_all c.loop-link.link-index c.args.way.now c.loop-link-test.false) in
    let none = no_weight (routers_passed c.args.way.now) in
    omega (arith, c.loop-link.invariant.sum, whole, none)
