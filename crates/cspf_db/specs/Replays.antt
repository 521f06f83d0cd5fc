-- The database after a replay that stops at a batch that doesn't fit.
use Rattle.std.specs.Prelude.{◌≡◌, List, ◌∷◌, ◌++◌}
use Rattle.cspf_model.specs.Numbered.{NumberedChanges}
use Rattle.cspf_model.specs.Database.{Database}
use Rattle.cspf_model.specs.Changes.{AreLawful, Fits, database_after}

-- Some batch of the list doesn't fit. `d` is the database that the batches before the first such
-- batch make.
pub record IsStoppedReplay (batches : List NumberedChanges) (d : Database) : Type 0 where
  pub before : List NumberedChanges
  pub batch : NumberedChanges
  pub after : List NumberedChanges
  pub split : batches ≡ before ++ (batch ∷ after)
  pub lawful : AreLawful before
  pub unfit : ¬ Fits (database_after before) batch
  pub database : d ≡ database_after before
