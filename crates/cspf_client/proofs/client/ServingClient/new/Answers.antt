use Rattle.std.proofs.Common.{refl, ap}
use Rattle.cspf_client.specs.SessionStates.{SessionState}
use Rattle.cspf_client.proofs.client.ServingClient.new.Goals as goal

pub returns-clause-ready : goal.returns-clause-ready
returns-clause-ready g c = record {
  unread = c.args.client.requests;
  held = refl;
  refused = ap (λ (s : SessionState). s.refused) c.new.ensures.state;
  end = refl;
}
