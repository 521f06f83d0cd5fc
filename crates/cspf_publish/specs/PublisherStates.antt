-- Defines the value by which contracts describe a publisher, and how many askers (which answer
-- requests) it may have.
use Rattle.std.specs.Prelude.{◌≡◌, ◌<◌, ◌≤◌, ℕ, Bool, true, List}
use Rattle.logbook.specs.Pages.{Book}
use Rattle.cspf_model.specs.Numbered.{NumberedChanges}
use Rattle.cspf_publish.specs.declared.limits.TheConstants.{MOST_ASKERS}

-- The state of a publisher: the published batches in order, the identity of the journal that they
-- are from (its source), whether the journal has failed, and the journal's writer.
pub record PublisherState (W : Type 0) : Type 0 where
  pub batches : List NumberedChanges
  pub source : Book
  pub stopped : Bool
  pub journal : W

-- the journal has failed
abbrev pub IsStopped : {W : Type 0} → PublisherState W → Type 0
IsStopped p = p.stopped ≡ true

-- the number of askers (which answer requests) that a publisher may have: 1 to 64
abbrev pub IsAskerCount : ℕ → Type 0
IsAskerCount askers = (0 < askers) × (askers ≤ MOST_ASKERS)
