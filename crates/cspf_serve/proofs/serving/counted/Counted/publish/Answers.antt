use Rattle.std.proofs.Common.{sym, ◌∙◌}
use Rattle.cspf_serve.proofs.serving.counted.Counted.publish.Goals as goal

pub learn-requires : goal.learn-requires
learn-requires g c = c.steps.ensures.source ∙ (c.in_ok-publish.ensures.source ∙ sym c.self.invariant.source)
