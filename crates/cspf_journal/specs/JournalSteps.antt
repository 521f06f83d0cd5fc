-- Defines the steps of a journal. A step records a batch, counts one more recorded batch as
-- published, or reads the count of published batches. A reader reads this count before it answers a
-- row, and the step of this reading names the reader and the row.
use Rattle.std.specs.Prelude.{◌≡◌, ℕ, ◌+◌, ◌≤◌, List, [], ◌∷◌, ◌++◌, length}
use Rattle.cspf_model.specs.Numbered.{NumberedChanges}
use Rattle.logbook.specs.Pages.{Book}
use Rattle.cspf_journal.specs.Histories.{IsHistory}
use Rattle.cspf_journal.specs.declared.log_step.LogStep.{LogStep}
use Rattle.cspf_journal.specs.declared.log_step.LogStep.TheVariants.{Recorded, Published, Read}

-- the batches that these steps record, in order
abbrev pub batches_of : List LogStep → List NumberedChanges
batches_of [] = []
batches_of (Recorded b ∷ steps) = b ∷ batches_of steps
batches_of (Published count ∷ steps) = batches_of steps
batches_of (Read reader place count ∷ steps) = batches_of steps

-- the count of published batches after these steps, if the count before them is `before`
abbrev pub count_from : ℕ → List LogStep → ℕ
count_from before [] = before
count_from before (Recorded b ∷ steps) = count_from before steps
count_from before (Published count ∷ steps) = count_from count steps
count_from before (Read reader place count ∷ steps) = count_from before steps

-- the number of batches that these steps count as published
abbrev pub count_of : List LogStep → ℕ
count_of steps = count_from 0 steps

-- The steps are in order. Before them, `recorded` batches are recorded and `published` batches are
-- published. Each step that counts a batch increases the count of published batches by one, and
-- this batch was recorded by an earlier step. Each reading finds the last count.
abbrev pub AreOrderedFrom : ℕ → ℕ → List LogStep → Type 0
AreOrderedFrom recorded published [] = Unit {0}
AreOrderedFrom recorded published (Recorded b ∷ steps) = AreOrderedFrom (recorded + 1) published steps
AreOrderedFrom recorded published (Published count ∷ steps) =
    (count ≡ published + 1) × (count ≤ recorded) × AreOrderedFrom recorded count steps
AreOrderedFrom recorded published (Read reader place count ∷ steps) =
    (count ≡ published) × AreOrderedFrom recorded published steps

-- The steps of one journal from its first step on.
pub record AreJournalSteps (steps : List LogStep) : Type 0 where
  pub history : IsHistory (batches_of steps)
  pub order : AreOrderedFrom 0 0 steps

-- the steps of a journal, from its first step up to the last step that was seen, and the identity
-- of this journal (its source)
pub record KnownSteps : Type 0 where
  pub steps : List LogStep
  pub source : Book

-- `after` consists of the steps `before`, then perhaps other steps, and then this step
abbrev pub AreStepsUpTo : List LogStep → List LogStep → LogStep → Type 0
AreStepsUpTo before after step = (others : List LogStep) × (after ≡ (before ++ others) ++ step ∷ [])
