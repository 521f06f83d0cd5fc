use Rattle.std.proofs.Common.{sym, ◌∙◌}
use Rattle.cspf_graph.proofs.TargetLemmas.{target_by_hop, target_at_end}
use Rattle.cspf_graph.proofs.targets.member.Goals as goal

pub returns-in-Some : goal.returns-in-Some
returns-in-Some c =
    target_by_hop c.args.table.now c.args.request.now c.args.leg c.args.router c.if-leg-eq0.false c.owns.result c.in-Some.hop (sym c.get.ensures ∙ c.in-Some.is)
    c.owns.ensures

pub returns-in-None : goal.returns-in-None
returns-in-None c =
    target_at_end c.args.table.now c.args.request.now c.args.leg c.args.router c.if-leg-eq0.false c.eq-in-None.result (sym c.get.ensures ∙ c.in-None.is)
    c.eq-in-None.ensures
