use Rattle.std.proofs.Common.{◌+◌, ◌-◌, ◌^◌, min, Some, Ok, refl, ap, subst, ◌∙◌}
use Rattle.cspf_client.specs.ServingStates.{ServingState}
use Rattle.cspf_client.specs.Sessions.{IsReopened}
use Rattle.cspf_client.proofs.client.ServingClient.reopened.Goals as goal

pub returns-in-Ok-clause-next : goal.returns-in-Ok-clause-next
returns-in-Ok-clause-next g c =
    let after : ServingState g.row.Q.Denot g.row.V.Denot = record {
      state = c.reopened.result;
      requests = Some c.in-Ok.field-0.requests;
      replies = c.in-Ok.field-0.replies;
      end = Ok tt;
      refused_before = c.saturating_add-refused.result;
    } in
    subst (λ (s : ServingState g.row.Q.Denot g.row.V.Denot). IsReopened g.V.Reopens.reopens s (Ok after)) c.self.view_is (
      c.in-Ok.field-0,
      (λ e. let yes = c.has_no_entry.ensures.1 e in absurd (cc (yes, c.if-has_no_entry.false))),
      c.in-Ok.ensures.opened,
      record {
        requests = refl;
        replies = refl;
        state = c.reopened.ensures;
        end = refl;
        refused = c.saturating_add-refused.ensures ∙ ap (λ n. min (c.self.inside.refused_before + n) (2 ^ 64 - 1)) c.refused.ensures;
      },
    )
