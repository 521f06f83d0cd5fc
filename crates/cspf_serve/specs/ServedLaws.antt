-- Laws of all runs over updates and clients: how old a reply may be.
use Rattle.std.specs.Prelude.{◌≡◌, ℕ, ◌^◌, ◌<◌, ◌≤◌, ◌⊎◌, All, Bool, Option, Some, List, [], ◌∷◌, ◌++◌, Ok}
use Rattle.std.specs.Option.{option_map}
use mathlib.Core.List.{IsPrefix}
use Rattle.cspf_journal.specs.declared.log_step.LogStep.{LogStep}
use Rattle.cspf_journal.specs.declared.log_step.LogStep.TheVariants.{Recorded, Published, Read}
use Rattle.cspf_model.specs.declared.request.Request.{Request}
use Rattle.cspf_model.specs.Best.{Answer}
use Rattle.cspf_model.specs.Numbered.{NumberedChanges}
use Rattle.cspf_ero.specs.ReplyLine.{IsReply}
use Rattle.cspf_rows.specs.Records.{rows_of}
use Rattle.cspf_rows.specs.declared.row.Row.TheVariants as row
use Rattle.cspf_publish.specs.JournalSteps.{KnownSteps, count_of}
use Rattle.cspf_questions.specs.declared.kinds.QuestionKinds.{QuestionKinds}
use Rattle.cspf_questions.specs.declared.question.Question.{Question}
use Rattle.cspf_questions.specs.declared.reading.ReadFields.{ReadFields}
use Rattle.cspf_questions.specs.declared.reading.ReadFields.TheVariants as reading
use Rattle.cspf_questions.specs.QuestionRows.{read_fields}
use Rattle.cspf_questions.specs.QuestionLines.{IsQuestionReply}
use Rattle.cspf_model.specs.Database.{Database}
use Rattle.cspf_client.specs.Sessions.{ReopensOf, ClientSession}
use Rattle.cspf_client.specs.declared.client.Client.{Client}
use Rattle.cspf_client.specs.declared.client.ServedClient.{ServedClient}
use Rattle.cspf_stream.specs.RowAnswers.{AnswersOf, AreAllAnswered}
use Rattle.cspf_stream.specs.StreamStops.{HasStopped}
use Rattle.cspf_stream.specs.declared.error.StreamError.{StreamError}
use Rattle.cspf_serve.specs.NumberedPairs.{AreNumberedPairs}
use Rattle.cspf_serve.specs.ServedRun.{IsServedClient, IsServedSeat, IsServedRun}
use Rattle.cspf_serve.specs.declared.serving.served_run.Served.{Served}

-- The steps of the journal that a client had seen before the first row of a session, and those that
-- it had seen after the session.
pub record SessionSteps : Type 0 where
  pub before : List LogStep
  pub after : List LogStep

-- The client reads the count of published batches before it answers its row with the number
-- `place`. This reading is one of the journal's `steps`, and one of the steps of this session: it
-- comes after the steps that the client had seen before the session, and among those that it had
-- seen after the session. So it isn't the reading for a row with this number of another session.
-- The steps before it count at most `version` batches as published.
pub record IsReadBefore (steps : List LogStep) (session : SessionSteps) (client place version : ℕ) : Type 0 where
  pub before : List LogStep
  pub count : ℕ
  pub after : List LogStep
  pub reading : steps ≡ before ++ Read client place count ∷ after
  pub begun : IsPrefix session.before before
  pub ended : IsPrefix (before ++ Read client place count ∷ []) session.after
  pub fresh : count_of before ≤ version

-- The line is a fresh reply: the version of the answer is at least the number of batches that were
-- published before the request's row was read.
pub record IsFreshReply (steps : List LogStep) (session : SessionSteps) (client place : ℕ) (q : Request) (line : List ℕ) : Type 0 where
  pub version : ℕ
  pub answer : Answer
  pub reply : IsReply q.id version answer line
  pub read : IsReadBefore steps session client place version

-- The line answers the question at a version that is at least the number of batches that were
-- published before the question's row was read.
pub record IsFreshAnswer (steps : List LogStep) (session : SessionSteps) (client place : ℕ) (question : Question) (line : List ℕ) : Type 0 where
  pub version : ℕ
  pub database : Database
  pub reply : IsQuestionReply database version question line
  pub read : IsReadBefore steps session client place version

-- If the row is a request or a question, its line has a version that is at least the number of
-- batches that were published before the row was read. Other lines have no version, so nothing is
-- stated about them.
abbrev pub IsFreshLine : List LogStep → SessionSteps → ℕ → ℕ → ReadFields → List ℕ → Type 0
IsFreshLine steps session client place (reading.Row (Ok (row.Ask q))) line = IsFreshReply steps session client place q line
IsFreshLine steps session client place (reading.Question question) line = IsFreshAnswer steps session client place question line
IsFreshLine steps session client place other line = Unit {0}

-- The line that answers the row with the number `place` is as `IsFreshLine` says: the version of a
-- reply is at least the version that was published before the row was read. Nothing is stated about
-- the client's states before and after the row.
abbrev pub IsAnsweredFresh : QuestionKinds → List LogStep → SessionSteps → ℕ → AnswersOf (Unit {0})
IsAnsweredFresh kinds steps session client place s fields line t = IsFreshLine steps session client place (read_fields kinds fields) line

-- the steps that the client had seen before and after the session
abbrev pub steps_of_session : {Q V : Type 0} → ClientSession Q V → SessionSteps
steps_of_session s = record { before = s.before.state.steps.steps; after = s.after.state.steps.steps }

-- The lines of a session are as `IsFreshLine` says: each reply has at least the version that was
-- published before its row was read. All rows of the session are answered, or the rows before its
-- stream stopped.
abbrev pub HasFreshLines : {Q V : Type 0} → QuestionKinds → (Q → Option (List ℕ)) → (V → Option (List ℕ)) → List LogStep → ℕ → ClientSession Q V → Type 0
HasFreshLines kinds bytes contents steps number s =
    AreAllAnswered (IsAnsweredFresh kinds steps (steps_of_session s) number) (option_map rows_of (bytes s.streams.requests)) tt tt (contents s.streams.replies) (contents s.after.replies)
    ⊎ ((why : StreamError) × (left : Option (List (List (List ℕ)))) × (failed : Bool)
    × HasStopped (IsAnsweredFresh kinds steps (steps_of_session s) number) (λ place s fields t. Unit {0}) why (option_map rows_of (bytes s.streams.requests)) left failed tt tt (contents s.streams.replies) (contents s.after.replies))

-- A seat has the sessions of `IsServedSeat`, and each of them has fresh lines.
pub record HasFreshSessions {Q V : Type 0} (kinds : QuestionKinds) (bytes : Q → Option (List ℕ)) (contents : V → Option (List ℕ)) (reopens : ReopensOf Q V) (published : List NumberedChanges) (all : KnownSteps) (number : ℕ) (client : Client Q V) (served : ServedClient V) : Type 0 where
  pub seat : IsServedSeat kinds bytes contents reopens published all number client served
  pub fresh : All (HasFreshLines kinds bytes contents all.steps number) (seat.last ∷ seat.earlier)

-- In a run over updates and clients, the version of each reply is at least the number of batches
-- that were published before its row was read. This is seen from the list of the journal's steps
-- that the run returns, and holds of each session of each client.
abbrev pub ServedRepliesAreFresh : Type 0 → Type 0 → {Q V : Type 0} → ReopensOf Q V → Type 0
ServedRepliesAreFresh W J {Q} {V} reopens =
    (kinds : QuestionKinds) (updates : Option (List ℕ)) (said : W → Option (List ℕ)) (recorded : J → Option (List ℕ)) (bytes : Q → Option (List ℕ)) (contents : V → Option (List ℕ))
    (writer : W) (journal : J) (clients : List (Client Q V)) (served : Served W J V)
    → (run : IsServedRun kinds updates said recorded bytes contents reopens writer journal clients served)
    → AreNumberedPairs (HasFreshSessions kinds bytes contents reopens run.state.run.accepted served.steps) 1 clients served.clients.items

-- If `reopen` never returns streams, a client has exactly one session, as `IsServedClient` says.
abbrev pub SeatsHaveOneSession : {Q V : Type 0} → ReopensOf Q V → Type 0
SeatsHaveOneSession {Q} {V} reopens =
    ((writer : V) (streams : Client Q V) → ¬ reopens writer (Ok streams))
    → (kinds : QuestionKinds) (bytes : Q → Option (List ℕ)) (contents : V → Option (List ℕ)) (published : List NumberedChanges) (all : KnownSteps) (number : ℕ) (client : Client Q V) (served : ServedClient V)
    → IsServedSeat kinds bytes contents reopens published all number client served
    → IsServedClient kinds bytes contents published all number client served

-- Three steps of a journal: a batch is recorded, it is counted as published, and then client 1
-- reads the count of published batches before it answers its first row.
abbrev pub read_behind_a_batch : NumberedChanges → List LogStep
read_behind_a_batch b = Recorded b ∷ Published 1 ∷ Read 1 1 1 ∷ []

-- An example of the law. The journal has the steps of `read_behind_a_batch`, client 1 asks one
-- request, and its stream ends without an error. Then its reply isn't at version 0.
abbrev pub NoReplyIsBehind : Type 0
NoReplyIsBehind =
    (kinds : QuestionKinds) (b : NumberedChanges) (all : KnownSteps) (fields : List (List ℕ)) (q : Request) (client : Client (List ℕ) (List ℕ)) (served : ServedClient (List ℕ)) (answer : Answer)
    → all.steps ≡ read_behind_a_batch b → rows_of client.requests ≡ fields ∷ [] → read_fields kinds fields ≡ reading.Row (Ok (row.Ask q)) → q.id < 2 ^ 64 → client.replies ≡ []
    → IsServedClient kinds (λ bytes. Some bytes) (λ bytes. Some bytes) (b ∷ []) all 1 client served → served.end ≡ Ok tt
    → ¬ IsReply q.id 0 answer served.replies
