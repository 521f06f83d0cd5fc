use Rattle.std.proofs.Common.{◌*◌, length, ap, refl}
use Rattle.cspf_graph.proofs.RoleLists.{roles_on}
use Rattle.cspf_graph.proofs.roles.set_roles.Goals as goal

pub returns : goal.returns
returns c =
    roles_on c.args.table.now c.args.request.now c.requires.listed c.args.leg.index c.args.from c.requires.within c.requires.from _ refl (ap (λ n. n * 1024) c.len.ensures.value) (ap length c.routers.ensures.all) c.args.leg.starts.now c.args.leg.targets.now
    c.requires.starts c.requires.targets c.is_loose.result c.is_loose.ensures c.args.roles.now c.spread.new.roles c.mark.new.roles c.mark-2.new.roles c.requires.known c.spread.ensures c.requires.many c.mark.ensures c.mark-2.ensures
