-- Which of the open changes the code keeps. A change in a stream is open until the `end` row of its
-- batch comes.
use Rattle.std.specs.Prelude.{◌≡◌, List, take, length}
use Rattle.cspf_model.specs.declared.batch.Change.{Change}
use Rattle.cspf_stream.specs.declared.limits.TheConstants.{KEPT_CHANGES}
use Rattle.cspf_stream.specs.declared.open_changes.OpenChanges.{OpenChanges}

-- the kept changes are the first `KEPT_CHANGES` of all open changes
abbrev pub AreKeptChanges : List Change → List Change → Type 0
AreKeptChanges kept all = kept ≡ take KEPT_CHANGES all

-- `kept` stores only the first open changes: at most one change more than a batch may have. Its
-- `count` is the number of all open changes.
pub record AreOpen (kept : OpenChanges) (all : List Change) : Type 0 where
  pub changes : AreKeptChanges kept.batch.changes all
  pub count : kept.count ≡ length all
