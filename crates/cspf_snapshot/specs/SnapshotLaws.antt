-- Defines the law of the snapshots of a database.
use Rattle.std.specs.Prelude.{◌≡◌, List}
use Rattle.cspf_model.specs.Numbered.{NumberedChanges}
use Rattle.cspf_model.specs.Database.{Database}
use Rattle.cspf_snapshot.specs.Snapshots.{IsSnapshot}

-- a database has at most one snapshot
abbrev pub OneSnapshot : Type 0
OneSnapshot =
    (d : Database) (batches others : List NumberedChanges)
    → IsSnapshot d batches → IsSnapshot d others → batches ≡ others
