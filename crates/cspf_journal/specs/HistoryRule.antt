-- Defines the rule of a journal's steps, which is an invariant. Also defines, for each kind of
-- step, the facts that a thread knows after it makes such a step.
use Rattle.std.specs.Prelude.{ℕ, ◌≡◌, ◌==◌, ◌≤◌, true, List, [], ◌∷◌, ◌++◌, length, MatchBool}
use Rattle.logbook.specs.Pages.{Cell, Step, View, Book, Named}
use Rattle.cspf_journal.specs.Histories.{IsHistory}
use Rattle.cspf_journal.specs.JournalSteps.{batches_of, count_of, AreOrderedFrom, AreJournalSteps, AreStepsUpTo}
use Rattle.cspf_journal.specs.declared.log_step.LogStep.{LogStep}
use Rattle.cspf_journal.specs.declared.log_step.LogStep.TheVariants.{Recorded, Published, Read}

-- The rule: the first counter is the number of recorded batches, and the second counter is the
-- number of published batches. All steps are steps of one journal.
pub record IsKeptHistory (cells : List Cell) (steps : List LogStep) : Type 0 where
  pub words : cells ≡ (length (batches_of steps), true) ∷ (count_of steps, true) ∷ []
  pub journal : AreJournalSteps steps

-- the shared counter for the number of recorded batches of the journal with the identity `source`
abbrev pub length_word : Book → Named
length_word source = record { tracked = true; key = 0; book = source }

-- the shared counter for the number of published batches of the journal with the identity `source`
abbrev pub count_word : Book → Named
count_word source = record { tracked = true; key = 1; book = source }

-- if the list of batches had the expected length (`s.old`), the batch was added at its end
abbrev pub Adds : Step LogStep → View LogStep ℕ → ℕ → View LogStep ℕ → Type 0
Adds s v found w = MatchBool (found == s.old)
    ((length (batches_of v.0) ≡ found) × (batches_of w.0 ≡ batches_of v.0 ++ batches_of (s.ask ∷ [])) × AreJournalSteps w.0)
    (Unit {0})

-- if the count of published batches was the expected count (`s.old`), one more batch is now counted
-- as published
abbrev pub CountsOneMore : Step LogStep → View LogStep ℕ → ℕ → View LogStep ℕ → Type 0
CountsOneMore s v found w = MatchBool (found == s.old)
    (AreStepsUpTo v.0 w.0 s.ask × (count_of w.0 ≡ s.new) × AreJournalSteps w.0)
    (Unit {0})

-- a reading of the count of published batches, with the count that it found; other steps are
-- unchanged
abbrev pub reading_of : LogStep → ℕ → LogStep
reading_of (Recorded b) found = Recorded b
reading_of (Published count) found = Published count
reading_of (Read reader place count) found = Read reader place found

-- the reading of the count of published batches follows all steps that the reader has seen, and
-- finds at most the number of recorded batches
abbrev pub Reads : Step LogStep → View LogStep ℕ → ℕ → View LogStep ℕ → Type 0
Reads s v found w = AreStepsUpTo v.0 w.0 (reading_of s.ask found) × (found ≤ length (batches_of w.0)) × AreJournalSteps w.0
