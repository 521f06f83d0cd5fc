-- Defines which lists of batches a publisher may publish.
use Rattle.std.specs.Prelude.{◌≡◌, ◌+◌, ◌<◌, ◌≤◌, List, ◌++◌, length}
use Rattle.cspf_model.specs.Numbered.{NumberedChanges, AreNumberedFrom}
use Rattle.cspf_model.specs.Changes.{database_after, Fits, AreLawful}
use Rattle.cspf_model.specs.declared.limits.TheConstants.{MOST_VERSIONS}

-- The batch may be published next: it fits the database of the batches so far, it has the next
-- number, and fewer than 1,000,000 batches were published.
pub record MayFollow (batches : List NumberedChanges) (b : NumberedChanges) : Type 0 where
  pub fits : Fits (database_after batches) b
  pub number : b.number ≡ length batches + 1
  pub room : length batches < MOST_VERSIONS

-- At most 1,000,000 batches, numbered from 1. Each batch fits the database of the batches before
-- it.
pub record IsHistory (batches : List NumberedChanges) : Type 0 where
  pub lawful : AreLawful batches
  pub numbers : AreNumberedFrom 1 batches
  pub most : length batches ≤ MOST_VERSIONS

-- the second list is a prefix of the first
abbrev pub BeginsWith : List NumberedChanges → List NumberedChanges → Type 0
BeginsWith all first = (rest : List NumberedChanges) × (all ≡ first ++ rest)
