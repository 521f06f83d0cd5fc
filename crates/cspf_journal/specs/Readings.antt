-- Defines readings of the count of published batches: the count that a reading finds, and the
-- batches that the reader knows afterwards.
use Rattle.std.specs.Prelude.{◌≡◌, ◌≤◌, ◌⊎◌, ℕ, List, [], ◌∷◌, ◌++◌, length}
use Rattle.cspf_journal.specs.Histories.{BeginsWith}
use Rattle.cspf_journal.specs.KnownBatches.{KnownBatches}
use Rattle.cspf_journal.specs.JournalSteps.{KnownSteps, batches_of, count_of, AreJournalSteps, AreStepsUpTo}
use Rattle.cspf_journal.specs.declared.log_step.LogStep.{LogStep}
use Rattle.cspf_journal.specs.declared.log_step.LogStep.TheVariants.{Read}

-- A reader reads the count of published batches before it answers its row with the number `place`.
-- This reading follows all steps that the reader has seen. The count is at least the count of those
-- steps. After the reading the reader knows at least `count` batches, and all of its batches are
-- recorded. Either the reader learns of no new batch, or it then knows exactly `count` batches.
pub record CatchesUp (before after : KnownBatches) (seen steps : KnownSteps) (reader place count : ℕ) : Type 0 where
  pub source : after.source ≡ before.source
  pub journal : steps.source ≡ seen.source
  pub read : AreStepsUpTo seen.steps steps.steps (Read reader place count)
  pub fresh : count_of seen.steps ≤ count
  pub later : BeginsWith after.batches before.batches
  pub known : count ≤ length after.batches
  pub recorded : BeginsWith (batches_of steps.steps) after.batches
  pub only : (after ≡ before) ⊎ (length after.batches ≡ count)

-- A reading finds at least the count of published batches that the steps before it give, and at
-- most the number of batches recorded before it.
abbrev pub ReadingsFindCounts : Type 0
ReadingsFindCounts =
    (before after : List LogStep) (reader place found : ℕ)
    → AreStepsUpTo before after (Read reader place found) → AreJournalSteps after
    → (count_of before ≤ found) × (found ≤ length (batches_of after))
