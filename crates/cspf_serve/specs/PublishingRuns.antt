-- Defines the result of a run in which the calling thread answers the rows of a stream and publishes
-- batches, while clients ask. `specs/Publishing.antt` says what the run has to know of the state
-- that answers the rows.
use Rattle.std.specs.Prelude.{◌≡◌, ℕ, ◌⊎◌, Bool, Option, List, All, Result, Err, MatchResult}
use Rattle.std.specs.Option.{option_map}
use Rattle.std.specs.Io.KnownBytes.{Appends, Keeps}
use Rattle.cspf_rows.specs.Records.{rows_of}
use Rattle.cspf_client.specs.declared.client.Client.{Client}
use Rattle.cspf_client.specs.declared.client.ServedClient.{ServedClient}
use Rattle.cspf_client.specs.Sessions.{ReopensOf}
use Rattle.cspf_questions.specs.declared.kinds.QuestionKinds.{QuestionKinds}
use Rattle.cspf_stream.specs.RowAnswers.{AnswersOf, AreAllAnswered}
use Rattle.cspf_stream.specs.StreamStops.{FailsOf, IsLineStopped, IsStreamStopped, stream_error_of}
use Rattle.cspf_stream.specs.declared.error.StreamError.{StreamError}
use Rattle.cspf_stream.specs.declared.error.StreamError.TheVariants as error
use Rattle.cspf_stream.specs.declared.error.StreamStop.{StreamStop}
use Rattle.cspf_serve.specs.Publishing.{PublishingSpec}
use Rattle.cspf_serve.specs.ServedRun.{AreServedFrom, AreStepsOfRun}
use Rattle.cspf_serve.specs.declared.serving.served_run.Served.{Served}

-- The error if the last line isn't written: memory is refused, or writing fails. `Last` holds of the
-- line.
abbrev pub IsLastCutOff : StreamError → (List ℕ → Type 0) → Option (List ℕ) → Option (List ℕ) → Type 0
IsLastCutOff error.Memory Last old new = Keeps old new
IsLastCutOff error.Read Last old new = ⊥
IsLastCutOff error.Write Last old new = (line : List ℕ) × Last line × IsLineStopped error.Write line old new
IsLastCutOff error.Flush Last old new = (line : List ℕ) × Last line × IsLineStopped error.Flush line old new
IsLastCutOff error.TooManyRows Last old new = ⊥

-- The last line is written, or writing it fails. `Last` holds of the line.
abbrev pub IsLastPut : Result (Unit {0}) StreamError → (List ℕ → Type 0) → Option (List ℕ) → Option (List ℕ) → Type 0
IsLastPut put Last old new =
    MatchResult put (λ done. (line : List ℕ) × Last line × Appends old new line) (λ error. IsLastCutOff error Last old new)

-- All rows of the stream are answered, and then the last line is written, or writing it fails. Or
-- the stream stops at an error, and not all of its rows are answered.
abbrev pub IsStreamRun : {S F : Type 0} → AnswersOf S → (F → FailsOf S) → (S → List ℕ → Type 0) → Result (Unit {0}) StreamError → Option (List (List (List ℕ))) → S → S → Option (List ℕ) → Option (List ℕ) → Type 0
IsStreamRun {S} {F} answers fails last ended all s t old new =
    ((mid : Option (List ℕ)) × AreAllAnswered answers all s t old mid × IsLastPut ended (last t) mid new)
    ⊎ ((why : StreamStop F) × (left : Option (List (List (List ℕ)))) × (failed : Bool) × (ended ≡ Err (stream_error_of why)) × IsStreamStopped answers fails why all left failed s t old new)

-- The status is 0 if neither the stream nor a client had refusals. Otherwise it is 2.
abbrev pub IsStatusOf : {V : Type 0} → Type 0 → List (ServedClient V) → ℕ → Type 0
IsStatusOf Refused clients status =
    ((¬ Refused) × All (λ c. c.refused ≡ 0) clients × (status ≡ 0))
    ⊎ ((Refused ⊎ (¬ All (λ c. c.refused ≡ 0) clients)) × (status ≡ 2))

-- The rows of the stream are answered from the state `before` on, and `after` is the state after
-- them. Its publisher has all published batches. The answers to each client are computed from
-- prefixes of these batches. The run returns one list of the journal's steps. These steps record
-- the batches, count them as published, and have the clients' readings of the count of published
-- batches. The run also returns what the state has beside its publisher. The clients are numbered from
-- 1. `reopens` says which streams of a next session the writer of a client's replies may return.
pub record IsPublishingRun {S F W J R Q V : Type 0} (spec : PublishingSpec S J R) (answers : AnswersOf S) (fails : F → FailsOf S) (kinds : QuestionKinds) (rows : Option (List ℕ)) (said : W → Option (List ℕ)) (bytes : Q → Option (List ℕ)) (contents : V → Option (List ℕ)) (reopens : ReopensOf Q V) (writer : W) (before : S) (clients : List (Client Q V)) (served : Served W J V) (rest : R) : Type 0 where
  pub after : S
  pub rows_run : IsStreamRun answers fails spec.last served.updates (option_map rows_of rows) before after (said writer) (said served.said)
  pub journal_is : served.journal ≡ (spec.publisher after).journal
  pub rest_is : rest ≡ spec.rest after
  pub steps_of_run : AreStepsOfRun (spec.publisher after).batches (spec.steps after).steps served.steps
  pub clients_served : AreServedFrom kinds bytes contents reopens (spec.publisher after).batches served.steps 1 clients served.clients.items
  pub status_is : IsStatusOf (spec.refused after) served.clients.items served.status
