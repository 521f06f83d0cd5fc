use Rattle.std.proofs.Common.{ap, subst}
use Rattle.cspf_publish.specs.KnownBatches.{KnownBatches}
use Rattle.cspf_serve.specs.ClientSeats.{SeatState}
use Rattle.cspf_serve.specs.ServedSteps.{IsAnswered}
use Rattle.cspf_serve.proofs.serving.served_run.ClientSeatDoerClient.work.Goals as goal

pub returns : goal.returns
returns g c =
    subst (λ (s : SeatState). IsAnswered g.K.Kinds.kinds g.V.Reopens.reopens g.Q.Read.remaining g.V.Write.contents s.asker.source s.number c.args.client c.serve.result) c.self.view_is (record {
      before = c.new.result;
      number_is = c.new.ensures.number;
      source_is = ap (λ (k : KnownBatches). k.source) c.new.ensures.known;
      steps_source = c.new.ensures.steps;
      requests = c.new.ensures.requests;
      replies = c.new.ensures.replies;
      sessions = c.serve.ensures.sessions;
      forward = c.serve.ensures.forward;
    })
