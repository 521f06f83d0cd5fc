-- Defines the state of a publisher with the steps of its journal, and what publishing a batch does.
use Rattle.std.specs.Prelude.{◌≡◌, ℕ, false, Option, List, [], ◌∷◌, ◌++◌}
use Rattle.std.specs.Io.KnownBytes.{Appends}
use Rattle.cspf_model.specs.Numbered.{NumberedChanges}
use Rattle.cspf_publish.specs.ApplyErrors.{IsNextBatch}
use Rattle.cspf_publish.specs.JournalSteps.{KnownSteps}
use Rattle.cspf_publish.specs.PublisherStates.{PublisherState}
use Rattle.cspf_rows.specs.BatchText.{batch_text}

-- a publisher, and the steps of its journal, up to the step that counts the last of its batches as
-- published
pub record CountedState (J : Type 0) : Type 0 where
  pub publisher : PublisherState J
  pub steps : KnownSteps

-- The batch is the next one, it is published, and its text is appended to the journal.
pub record IsPublished {J : Type 0} (contents : J → Option (List ℕ)) (old new : PublisherState J) (b : NumberedChanges) : Type 0 where
  pub next : IsNextBatch old b
  pub batches : new.batches ≡ old.batches ++ b ∷ []
  pub going : new.stopped ≡ false
  pub recorded : Appends (contents old.journal) (contents new.journal) (batch_text b)
