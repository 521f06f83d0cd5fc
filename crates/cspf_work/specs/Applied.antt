-- Defines the state after batches are applied in order, until one is refused or no batch is left.
use Rattle.std.specs.Prelude.{◌≡◌, ℕ, ◌<◌, ◌≤◌, ◌⊎◌, List, ◌++◌, length, take, Option, Some, None, slice_get, flat_map, All, false}
use Rattle.std.specs.Io.KnownBytes.{Appends}
use Rattle.cspf_model.specs.Numbered.{NumberedChanges}
use Rattle.cspf_rows.specs.BatchText.{batch_text}
use Rattle.cspf_publish.specs.ApplyErrors.{IsApplyError}
use Rattle.cspf_publish.specs.Histories.{BeginsWith}
use Rattle.cspf_publish.specs.AskerStates.{AskerState}
use Rattle.cspf_publish.specs.PublisherStates.{PublisherState}
use Rattle.cspf_publish.specs.declared.errors.ApplyError.{ApplyError}

-- All these batches were published in order, and their texts were appended to the journal. If the
-- list is empty, nothing changed. If it isn't empty, the journal had no fault after them.
pub record AreApplied {W : Type 0} (contents : W → Option (List ℕ)) (before after : PublisherState W) (batches : List NumberedChanges) : Type 0 where
  pub source : after.source ≡ before.source
  pub published : after.batches ≡ before.batches ++ batches
  pub recorded : Appends (contents before.journal) (contents after.journal) (flat_map batch_text batches)
  pub none : length batches ≡ 0 → after ≡ before
  pub going : 0 < length batches → after.stopped ≡ false

-- why no more batches were applied: all batches were applied, or the next batch was refused
abbrev pub IsEndOfApplying : {W : Type 0} → (W → Option (List ℕ)) → PublisherState W → PublisherState W → List NumberedChanges → ℕ → Option ApplyError → Type 0
IsEndOfApplying contents before after batches applied None = (applied ≡ length batches) × (after ≡ before)
IsEndOfApplying contents before after batches applied (Some e) =
    (next : NumberedChanges) × (slice_get batches applied ≡ Some next) × IsApplyError contents before after next e

-- The first `applied` batches were published. Then the next batch was refused, or no batch was
-- left.
pub record IsAppliedUpTo {W : Type 0} (contents : W → Option (List ℕ)) (before after : PublisherState W) (batches : List NumberedChanges) (applied : ℕ) (fault : Option ApplyError) : Type 0 where
  pub inside : applied ≤ length batches
  pub source : after.source ≡ before.source
  pub published : after.batches ≡ before.batches ++ take applied batches
  -- the state after these batches, and before the next batch was refused
  pub between : PublisherState W
  pub first : AreApplied contents before between (take applied batches)
  pub stop : IsEndOfApplying contents between after batches applied fault

-- Nothing happened, or batches were applied until one was refused or no batch was left. The texts
-- of the published batches were appended to the journal. If the journal failed, it also has a
-- prefix of the next batch's text, and the publisher is stopped.
abbrev pub IsAppliedInPart : {W : Type 0} → (W → Option (List ℕ)) → PublisherState W → PublisherState W → List NumberedChanges → Type 0
IsAppliedInPart contents before after batches =
    (after ≡ before)
    ⊎ ((applied : ℕ) × (fault : Option ApplyError) × IsAppliedUpTo contents before after batches applied fault)

-- The publisher and the askers (which compute the workers' answers) are unchanged, or each asker
-- knows the published batches.
abbrev pub AreUntouchedOrTold : {W : Type 0} → PublisherState W → PublisherState W → List AskerState → List AskerState → Type 0
AreUntouchedOrTold before after askers back =
    ((after ≡ before) × (back ≡ askers)) ⊎ All (λ (a : AskerState). BeginsWith a.batches after.batches) back
