use Rattle.std.proofs.Common.{arith}
use Rattle.cspf_meet.specs.Guided.{IsGuidedWaiting}
use Rattle.cspf_meet.proofs.Falling.{falls_none}
use Rattle.cspf_meet.proofs.guided.Guided.meet.Goals as goal

pub returns-clause-falls : goal.returns-clause-falls
returns-clause-falls c bounds = record {
  ranks = falls_none c.args.self.now.ranks.items (IsGuidedWaiting bounds c.args.self.now) _ (λ v waits. waits);
  most = omega (arith, c.min-self.ensures);
}
