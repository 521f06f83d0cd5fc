use Rattle.std.proofs.Common.{refl, rules, subst}
use Rattle.cspf_publish.specs.Answers.{IsBestAfter}
use Rattle.cspf_publish.specs.PublisherStates.{PublisherState}
use Rattle.cspf_publish.proofs.publisher.Publisher.answer.Goals as goal

pub returns : goal.returns
returns g c = record {
  id = refl;
  version = search rules;
  best = subst (λ (p : PublisherState _). IsBestAfter p.batches c.args.request.now c.in_ok-outcome.outcome) c.self.view_is c.in_ok-outcome.ensures;
}
