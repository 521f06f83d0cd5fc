-- Defines the snapshot of a database: the batches that make it from the empty database.
use Rattle.std.specs.Prelude.{◌≡◌, ◌<◌, ◌≤◌, ℕ, false, List, [], ◌∷◌, ◌++◌, length, map}
use Rattle.std.specs.List.Sorted.{IsStrictlyIncreasing}
use Rattle.std.specs.FinSet as set
use Rattle.cspf_model.specs.declared.link.Link.{Link}
use Rattle.cspf_model.specs.declared.batch.Change.{Change}
use Rattle.cspf_model.specs.declared.batch.Change.TheVariants.{Put, Node}
use Rattle.cspf_model.specs.declared.limits.TheConstants.{MOST_CHANGES}
use Rattle.cspf_model.specs.Numbered.{NumberedChanges, AreNumberedFrom}
use Rattle.cspf_model.specs.Database.{Database}
use Rattle.cspf_db.specs.Index.{links_of}
use Rattle.cspf_model.specs.Changes.{changes_of, database_after, AreLawful}
use Rattle.cspf_snapshot.specs.declared.limits.TheConstants.{MOST_SNAPSHOT_BATCHES}

-- the list has the addresses of the routers that the database marks as without transit: each once,
-- and in increasing order
pub record AreMarksOf (d : Database) (marks : List ℕ) : Type 0 where
  pub all : d.marks ≡ set.from_list marks
  pub rising : IsStrictlyIncreasing marks

-- the change that marks a router as without transit
abbrev pub marking : ℕ → Change
marking router = Node router false

-- the changes that put each link of `links`, and then mark each router of `marks` as without
-- transit
abbrev pub changes_making : List Link → List ℕ → List Change
changes_making links marks = map Put links ++ map marking marks

-- Each batch except the last one has 4,096 changes. The last batch has 1 to 4,096 changes.
abbrev pub AreFullButLast : List NumberedChanges → Type 0
AreFullButLast [] = Unit {0}
AreFullButLast (b ∷ []) = (0 < length b.changes) × (length b.changes ≤ MOST_CHANGES)
AreFullButLast (b ∷ c ∷ bs) = (length b.changes ≡ MOST_CHANGES) × AreFullButLast (c ∷ bs)

-- The batches put the links of the database in the order of their keys. Then they mark the marked
-- routers of the database in increasing order. There are at most 5 batches, numbered from 1. Each
-- batch except the last one has 4,096 changes. Each batch fits the database that the batches before
-- it make. All batches together make the database.
pub record IsSnapshot (d : Database) (batches : List NumberedChanges) : Type 0 where
  pub marks : List ℕ
  pub are_marks : AreMarksOf d marks
  pub changes : changes_of batches ≡ changes_making (links_of d) marks
  pub full : AreFullButLast batches
  pub numbers : AreNumberedFrom 1 batches
  pub few : length batches ≤ MOST_SNAPSHOT_BATCHES
  pub lawful : AreLawful batches
  pub database : database_after batches ≡ d
