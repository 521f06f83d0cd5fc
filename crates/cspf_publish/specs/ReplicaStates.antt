-- Defines the value by which the rule of the replicas describes one replica. The replicas are the
-- two copies of the table of links.
use Rattle.std.specs.Prelude.{ℕ, Bool, true}
use Rattle.logbook.specs.Pages.{Book}
use Rattle.cspf_model.specs.Numbered.{NumberedChanges}
use Rattle.cspf_model.specs.Database.{Database}
use Rattle.cspf_model.specs.Changes.{database_after}
use Rattle.cspf_journal.specs.KnownBatches.{KnownBatches}
use Rattle.cspf_publish.specs.BatchAbsorption.{database_with}

-- The state of a replica (a copy of the table). `right` is the source (the identity) of the journal
-- whose `CopyRight` the replica has. `known` are the replica's batches. `shape_changes` is the
-- number of these batches that change more than unreserved bandwidths. `is_open` is true after the
-- publisher's first step: the publisher's view then has the batches.
pub record ReplicaState : Type 0 where
  pub right : Book
  pub database : Database
  pub known : KnownBatches
  pub shape_changes : ℕ
  pub is_open : Bool

-- a replica (a copy of the table) after the publisher's first step: it has the database of its
-- batches, and a `CopyRight` of the journal that they are from
abbrev pub published_state : KnownBatches → ℕ → ReplicaState
published_state known shape_changes = record {
  right = known.source;
  database = database_after known.batches;
  known = known;
  shape_changes = shape_changes;
  is_open = true;
}

-- The replica (a copy of the table) after it absorbs a batch. `known` are the replica's batches
-- with this batch as the last one. A batch that doesn't fit leaves the database unchanged.
abbrev pub state_with : ReplicaState → NumberedChanges → KnownBatches → ℕ → ReplicaState
state_with s b known shape_changes = record {
  right = s.right;
  database = database_with s.database b;
  known = known;
  shape_changes = shape_changes;
  is_open = true;
}
