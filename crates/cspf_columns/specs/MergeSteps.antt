-- Private: sorted changes, and one step of merging them into the rows. A row is a link.
use Rattle.std.specs.Prelude.{◌≡◌, ◌<◌, ◌≤◌, ◌+◌, ◌-◌, ◌++◌, ℕ, List, drop, length, slice_index_or, vec_len, Vec}
use Rattle.std.specs.declared.cmp.Ordering.TheVariants.{Less}
use Rattle.std.specs.Vec.{vec_capacity}
use Rattle.std.specs.declared.alloc.Global.{Global}
use Rattle.cspf_model.specs.declared.link.Link.{Link}
use Rattle.cspf_model.specs.declared.batch.Change.{Change}
use Rattle.cspf_model.specs.Database.{key_of}
use Rattle.cspf_model.specs.Changes.{ChangeKey, change_key_cmp, link_key, key_changed}
use Rattle.cspf_model.specs.Lemmas.LinkChanges.{relinked}
use Rattle.cspf_model.specs.Lemmas.LinkRows.{database_of, AreByKey}

-- The state between two steps of merging. `merged` is what changes have made of the rows (links) at
-- indexes below `at`. The rows in `merged`, followed by the rows from index `at` on, are in order
-- of their keys. `merged` and `merged_ends` have capacity for all of these rows, and for one more.
pub record AreMergedBelow (rows : List Link) (at : ℕ) (merged : Vec Link Global) (merged_ends : Vec ℕ Global) : Type 0 where
  pub by_key : AreByKey rows
  pub joined : AreByKey (merged.items ++ drop at rows)
  pub bound : at ≤ length rows
  pub capacity : vec_len merged + (length rows - at) < vec_capacity merged
  pub capacity_of_ends : vec_len merged + (length rows - at) < vec_capacity merged_ends

-- One change is merged. Before the step, the list of all rows (links) is `old` followed by the rows
-- from index `at` on. After the step, it is `new` followed by the rows from index `next` on. The
-- change turns the first list into the second list, and adds at most one row.
pub record IsMergedUpTo (change : Change) (rows : List Link) (at : ℕ) (old new : Vec Link Global) (next : ℕ) : Type 0 where
  pub bound : next ≤ length rows
  pub changed : database_of (new.items ++ drop next rows) ≡ relinked (database_of (old.items ++ drop at rows)) change
  pub joined : AreByKey (new.items ++ drop next rows)
  pub longer : vec_len new + (length rows - next) ≤ vec_len old + (length rows - at) + 1

-- there are no rows (links), or the key of the last row is below the key `k`
abbrev pub EndsBelow : List Link → ChangeKey → Type 0
EndsBelow rows k =
    (d : Link) → 0 < length rows
    → change_key_cmp (link_key (key_of (slice_index_or rows (length rows - 1) d))) k ≡ Less

-- the keys of the changes are in strictly increasing order
abbrev pub AreSortedChanges : List Change → Type 0
AreSortedChanges changes =
    (k : ℕ) (d : Change) → k + 1 < length changes
    → change_key_cmp (key_changed (slice_index_or changes k d)) (key_changed (slice_index_or changes (k + 1) d)) ≡ Less

-- the pair `place` has the key of a change, and the index of this change
pub record IsPlaceOfChange (changes : List Change) (place : ChangeKey × ℕ) : Type 0 where
  pub within : place.1 < length changes
  pub key : (d : Change) → place.0 ≡ key_changed (slice_index_or changes place.1 d)
