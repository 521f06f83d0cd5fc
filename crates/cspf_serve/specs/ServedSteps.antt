-- Private: the states between the steps of a run over a stream and clients.
use Rattle.std.specs.Prelude.{◌≡◌, ℕ, ◌+◌, ◌-◌, ◌^◌, ◌<◌, ◌⊎◌, min, Option, Some, List, All, Result, Err, length}
use Rattle.std.specs.List.{AllZip}
use Rattle.logbook.specs.Pages.{Book}
use Rattle.cspf_model.specs.Numbered.{NumberedChanges}
use Rattle.cspf_publish.specs.Histories.{BeginsWith}
use Rattle.cspf_client.specs.declared.client.Client.{Client}
use Rattle.cspf_client.specs.declared.client.ServedClient.{ServedClient}
use Rattle.cspf_client.specs.declared.error.ClientError.TheVariants.{Ahead}
use Rattle.cspf_client.specs.ServingStates.{ServingState}
use Rattle.cspf_questions.specs.declared.kinds.QuestionKinds.{QuestionKinds}
use Rattle.cspf_client.specs.Sessions.{ReopensOf, HasSessions}
use Rattle.cspf_client.specs.SessionStates.{AreFirstSteps, HasGoneForward}
use Rattle.cspf_stream.specs.declared.error.StreamError.{StreamError}
use Rattle.cspf_serve.specs.Publishing.{PublishingSpec}
use Rattle.cspf_serve.specs.PublishingRuns.{IsStatusOf}
use Rattle.cspf_serve.specs.ServedRun.{AreStepsOfRun}
use Rattle.cspf_serve.specs.declared.serving.served_run.Served.{Served}

-- The client with this number was answered in one session after the other, from its first row on,
-- by an asker of the journal with the identity `source`.
pub record IsAnswered {Q V : Type 0} (kinds : QuestionKinds) (reopens : ReopensOf Q V) (bytes : Q → Option (List ℕ)) (contents : V → Option (List ℕ)) (source : Book) (number : ℕ) (client : Client Q V) (c : ServingState Q V) : Type 0 where
  pub before : ServingState Q V
  pub number_is : before.state.client ≡ number
  pub source_is : before.state.known.source ≡ source
  pub steps_source : before.state.steps.source ≡ source
  pub requests : before.requests ≡ Some client.requests
  pub replies : before.replies ≡ client.replies
  pub sessions : HasSessions kinds reopens bytes contents before c
  pub forward : HasGoneForward before.state c.state

-- The result `served` of a client in the state `c`. The batches that the client knew are a prefix
-- of the published batches, or the client ends with the error `Ahead`: it knew more batches than
-- were published.
pub record IsServedEnd {Q V : Type 0} (published : List NumberedChanges) (c : ServingState Q V) (served : ServedClient V) : Type 0 where
  pub replies : served.replies ≡ c.replies
  pub refused : served.refused ≡ min (c.refused_before + c.state.refused) (2 ^ 64 - 1)
  pub steps : served.steps ≡ c.state.steps
  pub known : served.known ≡ c.state.known
  pub end :
      ((served.end ≡ c.end) × BeginsWith published served.known.batches)
      ⊎ ((served.end ≡ Err Ahead) × (length published < length served.known.batches))

-- the batches that the client knows, and the steps that it has seen, are from the journal with the
-- identity `source`
abbrev pub IsOfSource : {Q V : Type 0} → Book → ServingState Q V → Type 0
IsOfSource source c = (c.state.known.source ≡ source) × (c.state.steps.source ≡ source)

-- The result of a run after its stream and all clients have ended. The result has one list of all
-- steps of the publisher's journal that the publisher or a client has seen.
pub record IsClosedRun {S W J R Q V : Type 0} (spec : PublishingSpec S J R) (ended : Result (Unit {0}) StreamError) (said : W) (updates : S) (serving : List (ServingState Q V)) (served : Served W J V) (rest : R) : Type 0 where
  pub ended_is : served.updates ≡ ended
  pub said_is : served.said ≡ said
  pub journal_is : served.journal ≡ (spec.publisher updates).journal
  pub rest_is : rest ≡ spec.rest updates
  pub closed : AllZip (IsServedEnd (spec.publisher updates).batches) serving served.clients.items
  pub steps : AreStepsOfRun (spec.publisher updates).batches (spec.steps updates).steps served.steps
  pub seen : All (λ c. AreFirstSteps served.steps c.state.steps) serving
  pub status : IsStatusOf (spec.refused updates) served.clients.items served.status
