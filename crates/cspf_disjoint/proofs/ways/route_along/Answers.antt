use Rattle.std.proofs.Common.{ap, arith}
use Rattle.cspf_model.specs.Walks.{routers_passed}
use Rattle.cspf_pair.specs.Potentials.{by_size, weight_of}
use Rattle.cspf_pair.proofs.Bounds.{no_weight, sizes}
use Rattle.cspf_disjoint.proofs.ways.route_along.Goals as goal

pub new-requires : goal.new-requires
new-requires c =
    let whole = ap (weight_of by_size) c.deref.ensures.value in
    let none = no_weight (routers_passed c.args.links.items) in
    let size = sizes c.args.links.items in
    record {
      some = c.requires.some;
      most = omega (arith, c.len.ensures, c.if-len-gt-MOST_ROUTE_LINKS.false);
      linked = c.requires.linked;
      cost = omega (arith, c.in_ok-weight.ensures, whole, none, size, c.len.ensures, c.if-len-gt-MOST_ROUTE_LINKS.false);
      small = omega (arith, c.if-cost-ge-COST_LIMIT.false);
    }
