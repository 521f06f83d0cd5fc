-- Defines the result of a run over updates and clients. There is one list of published batches: the
-- updates make it, the journal records it, and all clients are answered from it.
use Rattle.std.specs.Prelude.{◌≡◌, ℕ, ◌+◌, ◌-◌, ◌^◌, ◌<◌, ◌≤◌, ◌⊎◌, min, Bool, Option, Some, List, [], ◌∷◌, length, All, Result, Err, MatchResult}
use Rattle.std.specs.Option.{option_map}
use Rattle.std.specs.Io.KnownBytes.{Appends, Keeps}
use mathlib.Core.List.{IsPrefix}
use Rattle.cspf_journal.specs.declared.log_step.LogStep.{LogStep}
use Rattle.cspf_model.specs.Numbered.{NumberedChanges}
use Rattle.cspf_rows.specs.Records.{rows_of}
use Rattle.cspf_rows.specs.Rows.{row_of}
use Rattle.cspf_publish.specs.Histories.{BeginsWith}
use Rattle.cspf_publish.specs.JournalSteps.{KnownSteps, AreJournalSteps, batches_of, count_of}
use Rattle.cspf_publish.specs.KnownBatches.{KnownBatches, AreFirstOf}
use Rattle.cspf_client.specs.declared.client.Client.{Client}
use Rattle.cspf_client.specs.declared.client.ServedClient.{ServedClient}
use Rattle.cspf_client.specs.declared.error.ClientError.TheVariants.{Ahead}
use Rattle.cspf_client.specs.ServingStates.{ServingState, IsReady}
use Rattle.cspf_client.specs.SessionStates.{AreFirstSteps}
use Rattle.cspf_questions.specs.declared.kinds.QuestionKinds.{QuestionKinds}
use Rattle.cspf_client.specs.ClientRuns.{IsClientRun}
use Rattle.cspf_client.specs.Sessions.{ReopensOf, ClientSession, IsSession, IsLast, CameBefore, refused_in}
use Rattle.cspf_stream.specs.RowAnswers.{AnswersOf, AreAllAnswered}
use Rattle.cspf_stream.specs.StreamStops.{FailsOf, HasStopped, IsLineStopped}
use Rattle.cspf_stream.specs.declared.error.StreamError.{StreamError}
use Rattle.cspf_stream.specs.declared.error.StreamError.TheVariants as error
use Rattle.cspf_stream.specs.Lines.{end_line}
use Rattle.cspf_serve.specs.Updates.{UpdatesState, IsUpdateAnswered, IsUpdateLost, at_next_update, no_updates}
use Rattle.cspf_serve.specs.RunFaults.{IsOpeningFault}
use Rattle.cspf_serve.specs.NumberedPairs.{AreNumberedPairs}
use Rattle.cspf_serve.specs.declared.serving.served_run.Served.{Served}
use Rattle.cspf_serve.specs.declared.serving.served_run.ServedError.{ServedError}
use Rattle.cspf_serve.specs.declared.serving.served_run.ServedError.TheVariants as served_error

abbrev Rows : Type 0
Rows = List (List (List ℕ))

-- the row with the number `place`, counted from 1, is answered
abbrev pub IsUpdateAnsweredAt : AnswersOf UpdatesState
IsUpdateAnsweredAt place s fields line t = (place ≡ s.run.rows + 1) × IsUpdateAnswered (at_next_update s) (row_of fields) line t

-- memory is refused at the row with the number `place`, counted from 1
abbrev pub IsUpdateLostAt : FailsOf UpdatesState
IsUpdateLostAt place s fields t = (place ≡ s.run.rows + 1) × IsUpdateLost (at_next_update s) (row_of fields) t

-- The error if the last line isn't written: memory is refused, or writing fails. The last line
-- counts the open changes (those without their `end` row).
abbrev pub IsLastLineStopped : StreamError → List ℕ → Option (List ℕ) → Option (List ℕ) → Type 0
IsLastLineStopped error.Memory line old new = Keeps old new
IsLastLineStopped error.Read line old new = ⊥
IsLastLineStopped error.Write line old new = IsLineStopped error.Write line old new
IsLastLineStopped error.Flush line old new = IsLineStopped error.Flush line old new
IsLastLineStopped error.TooManyRows line old new = ⊥

-- The last line is written, or writing it fails. It counts the open changes (those without their
-- `end` row). If there are none, it is empty.
abbrev pub IsLastLineSaid : Result (Unit {0}) StreamError → List ℕ → Option (List ℕ) → Option (List ℕ) → Type 0
IsLastLineSaid said line old new =
    MatchResult said (λ done. Appends old new line) (λ error. IsLastLineStopped error line old new)

-- All rows of the updates are answered. `Last` holds of the text that is written after the lines of
-- the rows. This text is the line that counts the open changes (those without their `end` row), if
-- there are any.
pub record AreUpdatesAnswered (Last : List ℕ → Option (List ℕ) → Type 0) (all : Option Rows) (t : UpdatesState) (old : Option (List ℕ)) : Type 0 where
  pub mid : Option (List ℕ)
  pub answered : AreAllAnswered IsUpdateAnsweredAt all no_updates t old mid
  pub last : Last (end_line t.run.changes) mid

-- The updates stop with an error. Not all of their rows are answered, or the line that counts the
-- open changes (those without their `end` row) isn't written whole.
abbrev pub AreUpdatesStopped : StreamError → Option Rows → UpdatesState → Option (List ℕ) → Option (List ℕ) → Type 0
AreUpdatesStopped error all t old new =
    ((left : Option Rows) × (failed : Bool) × HasStopped IsUpdateAnsweredAt IsUpdateLostAt error all left failed no_updates t old new)
    ⊎ AreUpdatesAnswered (λ line mid. IsLastLineStopped error line mid new) all t old

-- all rows of the updates are answered, or the updates stop with the error in `ended`
abbrev pub IsUpdatesRun : Result (Unit {0}) StreamError → Option Rows → UpdatesState → Option (List ℕ) → Option (List ℕ) → Type 0
IsUpdatesRun ended all t old new =
    MatchResult ended
    (λ done. AreUpdatesAnswered (λ line mid. Appends mid new line) all t old)
    (λ error. AreUpdatesStopped error all t old new)

-- The client with this number has one session, and was answered from its first row on. At the end
-- it learns of all published batches. The client's batches are a prefix of the published batches, so each of its
-- replies is the best answer at a published version. A client that knew more batches than were
-- published ends with the error `Ahead`. No run has shown this error. The client's steps are a
-- prefix of all steps of the journal. So the journal's steps have all readings of the count of
-- published batches by this client. The result has the batches that the client knew after its last
-- row.
pub record IsServedClient {Q V : Type 0} (kinds : QuestionKinds) (bytes : Q → Option (List ℕ)) (contents : V → Option (List ℕ)) (published : List NumberedChanges) (all : KnownSteps) (number : ℕ) (client : Client Q V) (served : ServedClient V) : Type 0 where
  pub before : ServingState Q V
  pub after : ServingState Q V
  pub ready : IsReady before
  pub number_is : before.state.client ≡ number
  pub requests : before.requests ≡ Some client.requests
  pub empty : before.replies ≡ client.replies
  pub run : IsClientRun kinds bytes contents before after
  pub replies : served.replies ≡ after.replies
  pub refused : served.refused ≡ after.state.refused
  pub steps : served.steps ≡ after.state.steps
  pub known : served.known ≡ after.state.known
  pub first : AreFirstSteps all served.steps
  pub source : served.known.source ≡ all.source
  pub end :
      ((served.end ≡ after.end) × BeginsWith published served.known.batches)
      ⊎ ((served.end ≡ Err Ahead) × (length published < length served.known.batches))

-- One of the sessions of the client with this number. The client was answered from the session's
-- first row on. The batches that it knew at the session's end are a prefix of the batches `known`,
-- which it knew after its last session. Its steps are a prefix of all steps of the journal.
pub record IsServedSession {Q V : Type 0} (kinds : QuestionKinds) (bytes : Q → Option (List ℕ)) (contents : V → Option (List ℕ)) (known : KnownBatches) (all : KnownSteps) (number : ℕ) (s : ClientSession Q V) : Type 0 where
  pub session : IsSession kinds bytes contents number s
  pub first : AreFirstSteps all s.after.state.steps
  pub source : s.after.state.known.source ≡ all.source
  pub known_first : AreFirstOf known s.after.state.known

-- The seat of the client with this number has a list of sessions: the session `last`, and the
-- sessions `earlier` before it, the latest first. In each session the client was answered from the
-- session's first row on, as `IsServedClient` says of a client with one session. The first session
-- has the streams `client`. Each other session has the streams that `reopen` returned for the
-- writer of the session before it, and begins with the batches and the steps that the client knew
-- when that session ended. So along a seat the versions of replies never fall. After the last
-- session the client learns of all published batches, as in `IsServedClient`.
pub record IsServedSeat {Q V : Type 0} (kinds : QuestionKinds) (bytes : Q → Option (List ℕ)) (contents : V → Option (List ℕ)) (reopens : ReopensOf Q V) (published : List NumberedChanges) (all : KnownSteps) (number : ℕ) (client : Client Q V) (served : ServedClient V) : Type 0 where
  pub first : ServingState Q V
  pub last : ClientSession Q V
  pub earlier : List (ClientSession Q V)
  pub requests : first.requests ≡ Some client.requests
  pub empty : first.replies ≡ client.replies
  pub in_turn : CameBefore reopens first last.streams last.before earlier
  pub ends : IsLast reopens last
  pub each : All (IsServedSession kinds bytes contents served.known all number) (last ∷ earlier)
  pub replies : served.replies ≡ last.after.replies
  pub refused : served.refused ≡ min (refused_in (last ∷ earlier)) (2 ^ 64 - 1)
  pub steps : served.steps ≡ last.after.state.steps
  pub known : served.known ≡ last.after.state.known
  pub end :
      ((served.end ≡ last.after.end) × BeginsWith published served.known.batches)
      ⊎ ((served.end ≡ Err Ahead) × (length published < length served.known.batches))

-- Each client was answered as `IsServedSeat` says. The first client of the list has the number
-- `number`, the second client has the next number, and so on.
abbrev pub AreServedFrom : {Q V : Type 0} → QuestionKinds → (Q → Option (List ℕ)) → (V → Option (List ℕ)) → ReopensOf Q V → List NumberedChanges → KnownSteps → ℕ → List (Client Q V) → List (ServedClient V) → Type 0
AreServedFrom kinds bytes contents reopens published all number clients served =
    AreNumberedPairs (IsServedSeat kinds bytes contents reopens published all) number clients served

-- `all` has the steps of one journal, from its first step on. These steps record all published
-- batches, and count them as published. The list `steps` is a prefix of these steps.
pub record AreStepsOfRun (published : List NumberedChanges) (steps : List LogStep) (all : KnownSteps) : Type 0 where
  pub journal : AreJournalSteps all.steps
  pub recorded : BeginsWith (batches_of all.steps) published
  pub counted : length published ≤ count_of all.steps
  pub later : IsPrefix steps all.steps

-- no row and no batch of any stream was refused, and at the end no change is open (without its
-- `end` row)
pub record IsAllAccepted {V : Type 0} (t : UpdatesState) (clients : List (ServedClient V)) : Type 0 where
  pub refused : t.run.refused ≡ 0
  pub none_open : t.run.changes ≡ []
  pub each : All (λ c. c.refused ≡ 0) clients

-- the status is 0 if nothing was refused and no change is open (without its `end` row) at the end;
-- otherwise it is 2
abbrev pub IsServedStatus : {V : Type 0} → UpdatesState → List (ServedClient V) → ℕ → Type 0
IsServedStatus t clients status =
    (IsAllAccepted t clients × (status ≡ 0)) ⊎ ((¬ IsAllAccepted t clients) × (status ≡ 2))

-- The published batches are the accepted batches of the updates. Their texts were appended to the
-- journal. The answers to each client are computed from prefixes of these batches. The run returns
-- one list of the journal's steps. These steps record the batches, count them as published, and
-- have the clients' readings of the count of published batches. The clients are numbered from 1.
-- `reopens` says which streams of a next session the writer of a client's replies may return.
pub record IsServedRun {W J Q V : Type 0} (kinds : QuestionKinds) (updates : Option (List ℕ)) (said : W → Option (List ℕ)) (recorded : J → Option (List ℕ)) (bytes : Q → Option (List ℕ)) (contents : V → Option (List ℕ)) (reopens : ReopensOf Q V) (writer : W) (journal : J) (clients : List (Client Q V)) (served : Served W J V) : Type 0 where
  pub state : UpdatesState
  pub updates_run : IsUpdatesRun served.updates (option_map rows_of updates) state (said writer) (said served.said)
  pub journal_grown : Appends (recorded journal) (recorded served.journal) state.text
  pub steps_of_run : AreStepsOfRun state.run.accepted state.steps served.steps
  pub clients_served : AreServedFrom kinds bytes contents reopens state.run.accepted served.steps 1 clients served.clients.items
  pub status_is : IsServedStatus state served.clients.items served.status

-- Why no run began: its publisher wasn't opened, or the system had no thread for one of the `count`
-- clients.
abbrev pub IsServedFault : ℕ → ServedError → Type 0
IsServedFault count (served_error.Run error) = IsOpeningFault error
IsServedFault count (served_error.NoThread client) = (0 < client) × (client ≤ count)
