-- Defines the values by which contracts describe an asker. An asker answers requests.
use Rattle.std.specs.Prelude.{ℕ, List}
use Rattle.logbook.specs.Pages.{Book}
use Rattle.cspf_model.specs.Numbered.{NumberedChanges}
use Rattle.cspf_journal.specs.KnownBatches.{KnownBatches}

-- The state of an asker: the batches that it knows, and the identity of the journal that they are
-- from (its source). `most_trees` is the most trees of lower bounds that the asker keeps.
pub record AskerState : Type 0 where
  pub batches : List NumberedChanges
  pub source : Book
  pub most_trees : ℕ

-- an asker that knows these batches, and keeps at most `most` trees of lower bounds
abbrev pub asker_with : KnownBatches → ℕ → AskerState
asker_with known most = record { batches = known.batches; source = known.source; most_trees = most }

-- the batches that the asker knows, and the identity of the journal that they are from (its source)
abbrev pub known_of : AskerState → KnownBatches
known_of a = record { batches = a.batches; source = a.source }
