use Rattle.std.proofs.Common.{◌≤◌, IsTrue, length, refl, ap, subst, ◌∙◌}
use Rattle.std.specs.List.{AllZip}
use mathlib.Core.List.{IsPrefix}
use Rattle.cspf_publish.specs.Histories.{BeginsWith}
use Rattle.cspf_publish.specs.JournalSteps.{KnownSteps, batches_of, count_of}
use Rattle.cspf_publish.specs.PublisherStates.{PublisherState}
use Rattle.cspf_serve.specs.Counted.{CountedState}
use Rattle.cspf_serve.specs.ServedSteps.{IsServedEnd}
use Rattle.cspf_serve.proofs.ServedSteps.{status_iff}
use Rattle.cspf_serve.proofs.serving.served_run.close_run.Goals as goal

pub returns : goal.returns
returns g c =
    let published = c.end-counted.ensures.publisher in
    record {
      ended_is = refl;
      said_is = refl;
      journal_is =
          c.close.ensures ∙ ap (λ (k : CountedState g.row.J.Denot). k.publisher.journal) c.close_all-clients.ensures.same ∙ ap (λ (p : PublisherState g.row.J.Denot). p.journal) published;
      rest_is = c.end-counted.ensures.rest;
      closed = subst (λ (p : PublisherState g.row.J.Denot). AllZip (IsServedEnd p.batches) c.args.serving.items c.close_all-clients.result.items) published c.close_all-clients.ensures.closed;
      steps = record {
        journal = c.all_steps-steps.ensures.journal;
        recorded = subst (λ (p : PublisherState g.row.J.Denot). BeginsWith (batches_of c.all_steps-steps.result.steps) p.batches) published c.all_steps-steps.ensures.counted.recorded;
        counted = subst (λ (p : PublisherState g.row.J.Denot). length p.batches ≤ count_of c.all_steps-steps.result.steps) published c.all_steps-steps.ensures.counted.counted;
        later = subst (λ (k : KnownSteps). IsPrefix k.steps c.all_steps-steps.result.steps) c.end-counted.ensures.steps c.all_steps-steps.ensures.updates;
      };
      seen = rw c.as_slice.ensures.value at c.all_steps-steps.ensures.clients;
      status =
          status_iff (IsTrue c.has_refused-refused.result) (g.A.Publishing.spec.refused c.args.updates) c.close_all-clients.result.items c.status_of.result c.has_refused-refused.ensures
          (rw c.as_slice-2.ensures.value at c.status_of.ensures);
    }
