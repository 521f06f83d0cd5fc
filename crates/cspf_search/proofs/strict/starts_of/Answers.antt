use Rattle.std.proofs.Common.{◌≡◌, ◌+◌, ◌-◌, subst, arith}
use Rattle.cspf_graph.specs.Roles.{AreTargetsOf}
use Rattle.cspf_search.proofs.LegTargets.{read_targets}
use Rattle.cspf_search.proofs.strict.starts_of.Goals as goal

pub returns-else-leg_index-eq0 : goal.returns-else-leg_index-eq0
returns-else-leg_index-eq0 c =
    let d = c.args.query.table.now in
    let q = c.args.query.request.now in
    let one : c.args.leg_index - 1 + 1 ≡ c.args.leg_index = omega (arith, c.if-leg_index-eq0.false) in
    let are = read_targets d q c.args.query.targets.now (c.args.leg_index - 1) c.index-query-leg_index.result c.as_slice.result.now c.requires.query.targets (omega (arith, c.requires.leg)) c.as_slice.ensures.value in
    subst (λ k. AreTargetsOf d q k c.as_slice.result.now) one are
