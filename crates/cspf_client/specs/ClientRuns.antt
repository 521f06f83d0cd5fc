-- The answers to a client, and the client's state after its stream of requests has ended or stopped
-- early.
use Rattle.std.specs.Prelude.{◌≡◌, ℕ, Bool, List, Option, MatchResult}
use Rattle.cspf_stream.specs.RowAnswers.{AreAnswered, AreAllAnswered}
use Rattle.cspf_stream.specs.StreamStops.{IsStreamStopped}
use Rattle.cspf_stream.specs.declared.error.StreamStop.{StreamStop}
use Rattle.cspf_client.specs.ClientRows.{IsClientAnswered, IsClientUnanswered}
use Rattle.cspf_client.specs.SessionStates.{SessionState, HasGoneForward}
use Rattle.cspf_questions.specs.declared.kinds.QuestionKinds.{QuestionKinds}
use Rattle.cspf_client.specs.ErrorNames.{client_error_of}
use Rattle.cspf_client.specs.ServingStates.{ServingState, unread_rows}
use Rattle.cspf_client.specs.declared.error.ClientError.{ClientError}
use Rattle.cspf_client.specs.declared.error.RowFault.{RowFault}

-- A client that answers questions of these kinds has a stream of requests that stops, and `why` is the client's error. Any rows may be left, and a
-- read may have failed or not. The error isn't `Ahead`, because the check for this error comes
-- later.
pub record IsClientStopped (kinds : QuestionKinds) (why : ClientError) (all : Option (List (List (List ℕ)))) (s t : SessionState) (old new : Option (List ℕ)) : Type 0 where
  pub stop : StreamStop RowFault
  pub error : why ≡ client_error_of stop
  pub left : Option (List (List (List ℕ)))
  pub failed : Bool
  pub stopped : IsStreamStopped (IsClientAnswered kinds) (IsClientUnanswered kinds) stop all left failed s t old new

-- A client has run: either all its requests are answered and their lines are written, or its stream stopped.
abbrev pub IsClientRun : {Q V : Type 0} → QuestionKinds → (Q → Option (List ℕ)) → (V → Option (List ℕ)) → ServingState Q V → ServingState Q V → Type 0
IsClientRun kinds bytes contents old new =
    MatchResult new.end
    (λ done. AreAllAnswered (IsClientAnswered kinds) (unread_rows bytes old.requests) old.state new.state (contents old.replies) (contents new.replies))
    (λ why. IsClientStopped kinds why (unread_rows bytes old.requests) old.state new.state (contents old.replies) (contents new.replies))

-- Let a client answer some rows. The batches that it knew before are a prefix of the batches that
-- it knows afterwards. The same is true of the steps of the journal that it has seen. So the
-- versions of its replies never fall.
abbrev pub ClientsGoForward : Type 0
ClientsGoForward =
    (kinds : QuestionKinds) (place : ℕ) (s t : SessionState) (rows : List (List (List ℕ))) (lines : List ℕ) → AreAnswered (IsClientAnswered kinds) place s rows lines t
    → HasGoneForward s t
