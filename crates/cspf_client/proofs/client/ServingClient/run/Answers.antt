use Rattle.std.proofs.Common.{refl, sym, subst}
use Rattle.cspf_client.specs.ClientRuns.{IsClientRun}
use Rattle.cspf_client.specs.ServingStates.{ServingState}
use Rattle.cspf_client.proofs.Forward.{forward_stream}
use Rattle.cspf_client.proofs.Runs.{run_of}
use Rattle.cspf_client.proofs.client.ServingClient.run.Goals as goal

pub returns-clause-run : goal.returns-clause-run
returns-clause-run g c =
    let e = c.answer_all-self-inside.ensures in
    let before : ServingState g.row.Q.Denot g.row.V.Denot = record {
      state = c.self.inside.session;
      requests = c.self.inside.requests;
      replies = c.self.inside.replies;
      end = c.self.inside.end;
      refused_before = c.self.inside.refused_before;
    } in
    let after : ServingState g.row.Q.Denot g.row.V.Denot = record {
      state = c.answer_all-self-inside.new.session;
      requests = c.take.new.self;
      replies = c.end.new.self;
      end = c.answer_all-self-inside.result;
      refused_before = c.self.inside.refused_before;
    } in
    subst (λ (s : ServingState g.row.Q.Denot g.row.V.Denot). IsClientRun g.K.Kinds.kinds g.Q.Read.remaining g.V.Write.contents s after) c.self.view_is
    (run_of g.K.Kinds.kinds g.Q.Read.remaining g.V.Write.contents before after c.in-Some.requests (sym c.in-Some.ensures.value) c.answer_all-self-inside.result
    refl (rw (c.end.ensures.same, sym c.open_records-rows.ensures.rows) e.whole) (rw (c.end.ensures.same, sym c.open_records-rows.ensures.rows) e.stopped))

pub returns-clause-forward : goal.returns-clause-forward
returns-clause-forward g c =
    let e = c.answer_all-self-inside.ensures in
    rw (← c.self.view_is)
    (forward_stream g.K.Kinds.kinds _ c.self.inside.session c.answer_all-self-inside.new.session _ _ c.answer_all-self-inside.result e.whole e.stopped)
