-- Why a batch doesn't fit a database.
use Rattle.std.specs.Prelude.{◌≡◌, ℕ, zero, suc, ◌<◌, ◌≤◌, Option, Some, None, List, All, ◌∷◌, ◌++◌, length, map}
use Rattle.std.specs.Ordering.{eq_by_cmp}
use Rattle.std.specs.List.{IsDistinct, slice_get}
use Rattle.cspf_model.specs.declared.batch.Change.{Change}
use Rattle.cspf_model.specs.declared.batch.Change.TheVariants.{Put, Remove, Node}
use Rattle.cspf_model.specs.declared.refusal.Refusal.{Refusal}
use Rattle.cspf_model.specs.declared.refusal.Refusal.TheVariants.{TooLong, Duplicate, Absent, Full, TooManyRouters, TooManyMarks}
use Rattle.cspf_model.specs.Numbered.{NumberedChanges}
use Rattle.cspf_model.specs.Database.{Database, link_at, link_count, router_count, mark_count}
use Rattle.cspf_model.specs.Changes.{change_key_cmp, key_changed, after_changes, database_after, IsPresent, AreLawful}
use Rattle.cspf_model.specs.declared.limits.TheConstants.{MOST_CHANGES, MOST_LINKS, MOST_ROUTERS, MOST_MARKS}

-- The change at a position of the list. The first change has position 1.
abbrev pub change_at : List Change → ℕ → Option Change
change_at changes zero = None
change_at changes (suc before) = slice_get changes before

-- The change at position `place`, counted from 1, has the key of an earlier change.
pub record RepeatsAt (changes : List Change) (place : ℕ) : Type 0 where
  pub earlier : ℕ
  pub is_earlier : earlier < place
  pub first : Change
  pub second : Change
  pub is_first : change_at changes earlier ≡ Some first
  pub is_second : change_at changes place ≡ Some second
  pub one_key : key_changed first ≡ key_changed second

-- The change removes a link that the database doesn't have.
abbrev pub RemovesNothing : Database → Change → Type 0
RemovesNothing d (Put l) = ⊥
RemovesNothing d (Remove from local) = link_at d (from, local) ≡ None
RemovesNothing d (Node router transit) = ⊥

-- The change at position `place`, counted from 1, removes a link that the database doesn't have.
pub record RemovesNothingAt (d : Database) (changes : List Change) (place : ℕ) : Type 0 where
  pub change : Change
  pub is_change : change_at changes place ≡ Some change
  pub removes_nothing : RemovesNothing d change

-- `place` is the first position at which `P` holds.
pub record IsLeastPlace (P : ℕ → Type 0) (place : ℕ) : Type 0 where
  pub here : P place
  pub none_before : (before : ℕ) → before < place → ¬ P before

-- The list has at most 4,096 changes.
abbrev pub IsShort : List Change → Type 0
IsShort changes = length changes ≤ MOST_CHANGES

-- No two changes have the same key.
abbrev pub AreOnceEach : List Change → Type 0
AreOnceEach changes = IsDistinct (eq_by_cmp change_key_cmp) (map key_changed changes)

-- For each removal of the list, the database has a link with the removal's key.
abbrev pub ArePresent : Database → List Change → Type 0
ArePresent d changes = All (IsPresent d) changes

-- The list has at most 4,096 changes, no two of which have the same key. For each removal, the
-- database has a link with the removal's key.
pub record AreInOrder (d : Database) (changes : List Change) : Type 0 where
  pub short : IsShort changes
  pub once : AreOnceEach changes
  pub present : ArePresent d changes

-- The reason why a batch doesn't fit a database. If several reasons apply, the batch is refused for
-- the first of them, in the order of the cases below.
abbrev pub IsRefusal : Database → NumberedChanges → Refusal → Type 0
IsRefusal d batch TooLong = MOST_CHANGES < length batch.changes
IsRefusal d batch (Duplicate at) =
    IsShort batch.changes × IsLeastPlace (RepeatsAt batch.changes) at
IsRefusal d batch (Absent at) =
    IsShort batch.changes × AreOnceEach batch.changes
    × IsLeastPlace (RemovesNothingAt d batch.changes) at
IsRefusal d batch Full =
    AreInOrder d batch.changes × (MOST_LINKS < link_count (after_changes d batch.changes))
IsRefusal d batch TooManyRouters =
    AreInOrder d batch.changes × (link_count (after_changes d batch.changes) ≤ MOST_LINKS)
    × (MOST_ROUTERS < router_count (after_changes d batch.changes))
IsRefusal d batch TooManyMarks =
    AreInOrder d batch.changes × (link_count (after_changes d batch.changes) ≤ MOST_LINKS)
    × (router_count (after_changes d batch.changes) ≤ MOST_ROUTERS)
    × (MOST_MARKS < mark_count (after_changes d batch.changes))

-- The batch with the number `number` is the first batch in the list that is refused: it doesn't fit
-- the database that the preceding batches make. `why` is the reason.
pub record IsFirstUnfit (batches : List NumberedChanges) (number : ℕ) (why : Refusal) : Type 0 where
  pub before : List NumberedChanges
  pub batch : NumberedChanges
  pub after : List NumberedChanges
  pub split : batches ≡ before ++ (batch ∷ after)
  pub lawful : AreLawful before
  pub is_its : number ≡ batch.number
  pub refused : IsRefusal (database_after before) batch why
