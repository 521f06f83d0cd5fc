-- Private: which row (a link) a change affects, and when a tally is correct. A tally is a summary
-- of what changes do.
use Rattle.std.specs.Prelude.{◌≡◌, ◌≢◌, ◌*◌, ◌<◌, ◌≤◌, ℕ, Bool, true, false, Option, IfSome, IfNone, List, All, length, count_by, take, slice_index_or, slice_set}
use Rattle.std.specs.List.{AllWithin, HoldsAt}
use Rattle.cspf_columns.specs.AlikeChanges.{IsAlike}
use Rattle.cspf_columns.specs.declared.columns.Columns.{Columns}
use Rattle.cspf_db.specs.declared.table.fit.tally.Tally.{Tally}
use Rattle.cspf_model.specs.declared.link.Link.{Link}
use Rattle.cspf_model.specs.declared.batch.Change.{Change}
use Rattle.cspf_model.specs.Changes.{link_key, key_changed, IsPresent}
use Rattle.cspf_model.specs.Database.{Database, key_of}
use Rattle.cspf_model.specs.Lemmas.CountedEnds.{BringsAtMost, HasListedEnds}
use Rattle.cspf_model.specs.Lemmas.LinkRows.{database_of}
use Rattle.cspf_model.specs.Lemmas.RepeatedKeys.{IsNewAt}
use Rattle.cspf_model.specs.Lemmas.RowsLeft.{adds_link, is_untouched}
use Rattle.cspf_model.specs.Refusals.{AreOnceEach, RemovesNothing}

-- `row` is the index of the row (a link) with the change's key, if there is such a row
pub record IsRowOf (rows : List Link) (change : Change) (row : Option ℕ) : Type 0 where
  pub bound : IfSome row (λ at. at < length rows)
  pub some : IfSome row (HoldsAt (λ l. link_key (key_of l) ≡ key_changed change) rows)
  pub none : IfNone row (All (λ l. link_key (key_of l) ≢ key_changed change) rows)

-- `old` and `new` have a flag for each row (a link), which says whether a change affects the row.
-- The flag of the row at the index `row` is false in `old`. `new` is `old` with this flag set.
pub record IsSeenAt (old new : List Bool) (row : ℕ) : Type 0 where
  pub within : row < length old
  pub unseen : slice_index_or old row true ≡ false
  pub seen : new ≡ slice_set old row true

-- `seen` has a flag for each row (a link). The changes before the index `at` have different keys.
-- None of them has the key of a row whose flag is false.
pub record AreOnSeenRows (rows : List Link) (changes : List Change) (seen : List Bool) (at : ℕ) : Type 0 where
  pub new : (k : ℕ) → k < at → IsNewAt changes k
  pub untouched : (row : ℕ) (d : Link) → row < length rows → slice_index_or seen row true ≡ false
      → is_untouched (take at changes) (slice_index_or rows row d) ≡ true

-- The tally is correct. Each link that a change removes is one of the rows (links). `added` is the
-- number of changes that add a link, and `brought` is at least the number of new routers. If
-- `alike` is true, each change replaces a row by a link between the same two interfaces. If `apart`
-- is true, no two changes have the same key.
pub record IsTallyOf (c : Columns) (changes : List Change) (tally : Tally) : Type 0 where
  pub present : All (IsPresent (database_of c.rows.items)) changes
  pub added : tally.added ≡ count_by (adds_link (database_of c.rows.items)) changes
  pub few : tally.brought ≤ 2 * length changes
  pub most : BringsAtMost c.routers.items changes tally.brought
  pub listed : tally.brought ≡ 0 → All (HasListedEnds c.routers.items) changes
  pub alike : tally.alike ≡ true → All (IsAlike c.rows.items) changes
  pub apart : tally.apart ≡ true → AreOnceEach changes

-- `at` is the index of the first change that removes a link that the database lacks.
pub record IsFirstAbsent (d : Database) (changes : List Change) (at : ℕ) : Type 0 where
  pub bound : at < length changes
  pub absent : HoldsAt (RemovesNothing d) changes at
  pub before : AllWithin (IsPresent d) changes 0 at
