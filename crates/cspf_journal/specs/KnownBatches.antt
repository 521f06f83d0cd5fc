-- Defines the batches of a journal's list that a publisher or an asker knows. Askers learn of
-- published batches from a `Told`, which also has known batches.
use Rattle.std.specs.Prelude.{◌≡◌, List, [], ◌∷◌, ◌++◌}
use Rattle.logbook.specs.Pages.{Book}
use Rattle.cspf_model.specs.Numbered.{NumberedChanges}
use Rattle.cspf_journal.specs.Histories.{BeginsWith}

-- a prefix of a journal's list of batches, and the identity of this journal (its source)
pub record KnownBatches : Type 0 where
  pub batches : List NumberedChanges
  pub source : Book

-- the batches of `first` are a prefix of the batches of `all`, and both are batches of one journal
-- (the source is its identity)
pub record AreFirstOf (all first : KnownBatches) : Type 0 where
  pub source : first.source ≡ all.source
  pub begins : BeginsWith all.batches first.batches

-- the known batches after the batch `b` is added at the end of `batches`; `source` is the identity
-- of their journal
abbrev pub known_with : List NumberedChanges → Book → NumberedChanges → KnownBatches
known_with batches source b = record { batches = batches ++ b ∷ []; source = source }
