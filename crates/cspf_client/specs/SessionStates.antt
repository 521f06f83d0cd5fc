-- A client's state between two rows.
use Rattle.std.specs.Prelude.{◌≡◌, ℕ}
use mathlib.Core.List.{IsPrefix}
use Rattle.cspf_publish.specs.JournalSteps.{KnownSteps}
use Rattle.cspf_publish.specs.KnownBatches.{KnownBatches, AreFirstOf}

-- The state of a client: its number, the batches that it knows, the steps of the journal that it
-- has seen, and its count of refused rows.
pub record SessionState : Type 0 where
  pub client : ℕ
  pub known : KnownBatches
  pub steps : KnownSteps
  pub refused : ℕ

-- The steps `first` are a prefix of the steps `all`, and both are steps of the same journal.
-- `source` identifies the journal.
pub record AreFirstSteps (all first : KnownSteps) : Type 0 where
  pub source : first.source ≡ all.source
  pub begins : IsPrefix first.steps all.steps

-- The batches that the client knew in the state `old` are a prefix of the batches that it knows in
-- the state `new`. The steps that it had seen in `old` are a prefix of the steps that it has seen
-- in `new`. Both states have the number of the same client.
pub record HasGoneForward (old new : SessionState) : Type 0 where
  pub client : new.client ≡ old.client
  pub known : AreFirstOf new.known old.known
  pub steps : AreFirstSteps new.steps old.steps
