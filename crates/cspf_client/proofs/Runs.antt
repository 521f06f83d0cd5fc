-- What a client's run has answered if the client's stream has ended, or has stopped before its end.
use Rattle.std.proofs.Common.{◌≡◌, ℕ, List, Option, Some, Result, Ok, Err, OnOk, IfErr}
use Rattle.std.specs.Option.{option_map}
use Rattle.cspf_rows.specs.Records.{rows_of}
use Rattle.cspf_stream.specs.RowAnswers.{AreAllAnswered}
use Rattle.cspf_questions.specs.declared.kinds.QuestionKinds.{QuestionKinds}
use Rattle.cspf_client.specs.ClientRows.{IsClientAnswered}
use Rattle.cspf_client.specs.declared.error.ClientError.{ClientError}
use Rattle.cspf_client.specs.ClientRuns.{IsClientStopped, IsClientRun}
use Rattle.cspf_client.specs.ServingStates.{ServingState}

pub run_of : {Q V : Type 0} (kinds : QuestionKinds) (bytes : Q → Option (List ℕ)) (contents : V → Option (List ℕ)) (old new : ServingState Q V) (requests : Q) → old.requests ≡ Some requests → (ended : Result (Unit {0}) ClientError)
    → new.end ≡ ended
    → OnOk ended (AreAllAnswered (IsClientAnswered kinds) (option_map rows_of (bytes requests)) old.state new.state (contents old.replies) (contents new.replies))
    → IfErr ended (λ why. IsClientStopped kinds why (option_map rows_of (bytes requests)) old.state new.state (contents old.replies) (contents new.replies))
    → IsClientRun kinds bytes contents old new
run_of kinds bytes contents old new requests held (Ok done) end whole stopped = rw (end, held) whole
run_of kinds bytes contents old new requests held (Err why) end whole stopped = rw (end, held) stopped
