use Rattle.std.proofs.Common.{arith}
use Rattle.cspf_search.specs.Frontier.{nowhere}
use Rattle.cspf_search.proofs.search.route_to.Goals as goal

pub new-requires : goal.new-requires
new-requires c =
    let ranked = c.requires.arena.ranked c.args.at nowhere c.requires.within in
    rw c.in_ok-links.ensures (record {
      some = c.requires.some;
      most = c.requires.most;
      linked = c.requires.linked;
      cost = c.cost_at.ensures;
      small = omega (arith, c.cost_at.ensures, ranked.small, c.requires.most);
    })
