-- The values by which contracts describe a client.
use Rattle.std.specs.Prelude.{◌≡◌, ℕ, ◌<◌, ◌⊎◌, List, length, Option, None, Some, Result, Ok, Err}
use Rattle.std.specs.Option.{option_map}
use Rattle.cspf_rows.specs.Records.{rows_of}
use Rattle.cspf_publish.specs.KnownBatches.{KnownBatches}
use Rattle.cspf_client.specs.SessionStates.{SessionState}
use Rattle.cspf_client.specs.declared.error.ClientError.{ClientError}
use Rattle.cspf_client.specs.declared.error.ClientError.TheVariants as error

-- A client: its state between two rows, its stream of requests, the writer of its replies, and how
-- the stream ended. `requests` is `None` once the stream is opened for reading. `refused_before` is
-- the count of rows that were refused in earlier sessions, but at most 2^64 - 1.
pub record ServingState (Q V : Type 0) : Type 0 where
  pub state : SessionState
  pub requests : Option Q
  pub replies : V
  pub end : Result (Unit {0}) ClientError
  pub refused_before : ℕ

-- the client has read no row of its session yet
pub record IsReady {Q V : Type 0} (c : ServingState Q V) : Type 0 where
  pub unread : Q
  pub held : c.requests ≡ Some unread
  pub refused : c.state.refused ≡ 0
  pub end : c.end ≡ Ok tt

-- The rows of the stream of requests. The result is `None` if the stream was already opened for
-- reading, or if its bytes aren't known.
abbrev pub unread_rows : {Q : Type 0} → (Q → Option (List ℕ)) → Option Q → Option (List (List (List ℕ)))
unread_rows bytes None = None
unread_rows bytes (Some requests) = option_map rows_of (bytes requests)

-- A client learns of the batches `told`, which are all published batches. Either it then knows
-- exactly these batches. Or it already knew more batches: then it learns nothing, and ends with the
-- error `Ahead`.
abbrev pub HasMet : {Q V : Type 0} → KnownBatches → ServingState Q V → ServingState Q V → Type 0
HasMet told old new =
    ((new.state.known ≡ told) × (new.end ≡ old.end))
    ⊎ (((new.state.known ≡ old.state.known) × (length told.batches < length old.state.known.batches)) × (new.end ≡ Err error.Ahead))
