-- Defines why a batch is refused, and the publisher's state after the refusal.
use Rattle.std.specs.Prelude.{◌≡◌, ◌≢◌, ℕ, ◌+◌, ◌<◌, ◌≤◌, false, List, length, take, Option}
use Rattle.std.specs.Io.KnownBytes.{Appends}
use Rattle.cspf_model.specs.Numbered.{NumberedChanges}
use Rattle.cspf_model.specs.Changes.{database_after}
use Rattle.cspf_model.specs.Refusals.{IsRefusal}
use Rattle.cspf_journal.specs.Histories.{MayFollow}
use Rattle.cspf_publish.specs.PublisherStates.{PublisherState, IsStopped}
use Rattle.cspf_rows.specs.BatchText.{batch_text}
use Rattle.cspf_model.specs.declared.limits.TheConstants.{MOST_VERSIONS}
use Rattle.cspf_publish.specs.declared.errors.ApplyError.{ApplyError}
use Rattle.cspf_publish.specs.declared.errors.ApplyError.TheVariants.{Stopped, Exhausted, WrongNumber, Refused, Memory, Journal}

-- the journal hasn't failed, and the batch may be published next
pub record IsNextBatch {W : Type 0} (p : PublisherState W) (b : NumberedChanges) : Type 0 where
  pub going : p.stopped ≡ false
  pub follows : MayFollow p.batches b

-- the journal hasn't failed, and fewer than 1,000,000 batches are published
pub record HasRoom {W : Type 0} (p : PublisherState W) : Type 0 where
  pub going : p.stopped ≡ false
  pub room : length p.batches < MOST_VERSIONS

-- Why the batch isn't published: the first of these reasons that applies. `p` is the publisher
-- before the call, and `p'` after it. The publisher changes only if its journal fails: a strict
-- prefix of the batch's text is written, and the publisher never publishes again.
abbrev pub IsApplyError : {W : Type 0} → (W → Option (List ℕ)) → PublisherState W → PublisherState W → NumberedChanges → ApplyError → Type 0
IsApplyError contents p p' b Stopped = IsStopped p × (p' ≡ p)
IsApplyError contents p p' b Exhausted = (p.stopped ≡ false) × (MOST_VERSIONS ≤ length p.batches) × (p' ≡ p)
IsApplyError contents p p' b (WrongNumber expected) =
    HasRoom p × (b.number ≢ length p.batches + 1) × (expected ≡ length p.batches + 1) × (p' ≡ p)
IsApplyError contents p p' b (Refused refusal) =
    HasRoom p × (b.number ≡ length p.batches + 1) × IsRefusal (database_after p.batches) b refusal × (p' ≡ p)
IsApplyError contents p p' b Memory = IsNextBatch p b × (p' ≡ p)
IsApplyError contents p p' b (Journal written) =
    IsNextBatch p b × IsStopped p' × (written < length (batch_text b))
    × Appends (contents p.journal) (contents p'.journal) (take written (batch_text b))
