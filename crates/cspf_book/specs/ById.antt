-- Private: the version of the book in which each placement was placed. A map has these versions by
-- the placements' ids. Also: the bits of the routers on each placement's route.
use Rattle.std.specs.Prelude.{◌≡◌, ◌+◌, ◌<◌, ◌≤◌, ◌++◌, ℕ, Option, Some, None, cond, List, [], ◌∷◌, length, map, nat_eq, remove, slice_index, vec_len}
use Rattle.std.specs.Ordering.{nat_cmp}
use Rattle.std.specs.BTreeMap.{get}
use Rattle.std.specs.Vec.{vec_capacity}
use Rattle.cspf_book.specs.declared.versions.Ids.{Ids}
use Rattle.cspf_book.specs.declared.placement.Placement.{Placement}
use Rattle.cspf_book.specs.Placements.{id_of}
use Rattle.cspf_book.specs.RouterBits.{bits_of}

-- The versions are strictly increasing. The first version is at least `low`, and the last version
-- is below `high`.
abbrev pub IsRising : ℕ → List ℕ → ℕ → Type 0
IsRising low [] high = low ≤ high
IsRising low (v ∷ vs) high = (low ≤ v) × IsRising (v + 1) vs high

-- the version in `versions` at the index of the first placement with this id; nothing if no
-- placement has this id
abbrev pub version_of : List ℕ → List Placement → ℕ → Option ℕ
version_of [] placements id = None
version_of (v ∷ vs) [] id = None
version_of (v ∷ vs) (p ∷ ps) id = cond (nat_eq (id_of p) id) (Some v) (version_of vs ps id)

-- the version that the map `by_id` has for an id, if any
abbrev pub entered : Ids → ℕ → Option ℕ
entered x id = get nat_cmp x.by_id id

-- The elements of `versions` before `index` are lower than `version`. The elements from `index` on
-- are at least `version`.
pub record IsIndexIn (versions : List ℕ) (version index : ℕ) : Type 0 where
  pub before : (k : ℕ) → k < index → slice_index versions k < version
  pub behind : (k : ℕ) → index ≤ k → k < length versions → version ≤ slice_index versions k

-- `x` lists one version for each placement, in the order of the placements. These versions are
-- strictly increasing, and at most `version`. The map of `x` maps the id of each placement to the
-- placement's version. `x` also lists the bits of the routers on each placement's route.
pub record AreIdsOf (x : Ids) (version : ℕ) (placements : List Placement) : Type 0 where
  pub many : length x.versions.items ≡ length placements
  pub rising : IsRising 0 x.versions.items (version + 1)
  pub at : (id : ℕ) → entered x id ≡ version_of x.versions.items placements id
  pub bits : x.bits.items ≡ map bits_of placements

-- The memory of `x` has room for one more version and for the bits of one more placement.
pub record HasRoomForOne (x : Ids) : Type 0 where
  pub versions : vec_len x.versions < vec_capacity x.versions
  pub bits : vec_len x.bits < vec_capacity x.bits

-- `new` lists the same versions and bits as `old`, and its map has the same version for each id
pub record HasSameIds (old new : Ids) : Type 0 where
  pub versions : new.versions.items ≡ old.versions.items
  pub bits : new.bits.items ≡ old.bits.items
  pub at : (id : ℕ) → entered new id ≡ entered old id

-- The map of `new` has `version` for `id`. For all other ids, the maps of `new` and `old` are the
-- same.
pub record HasEntered (old new : Ids) (id version : ℕ) : Type 0 where
  pub at : (other : ℕ) → entered new other ≡ cond (nat_eq id other) (Some version) (entered old other)

-- The map of `new` has the version `before` for `id`, or no version. For all other ids, the maps of
-- `new` and `old` are the same. The lists of versions and bits are unchanged.
pub record HasRestored (old new : Ids) (id : ℕ) (before : Option ℕ) : Type 0 where
  pub versions : new.versions ≡ old.versions
  pub bits : new.bits ≡ old.bits
  pub at : (other : ℕ) → entered new other ≡ cond (nat_eq id other) before (entered old other)

-- In the list of versions, the element at `index` is removed, and `version` is appended. In the
-- list of bits, the element at `index` is removed, and `added` is appended. The map of versions by
-- ids is unchanged.
pub record HasReplaced (old new : Ids) (index version added : ℕ) : Type 0 where
  pub versions : new.versions.items ≡ remove old.versions.items index ++ version ∷ []
  pub bits : new.bits.items ≡ remove old.bits.items index ++ added ∷ []
  pub at : (id : ℕ) → entered new id ≡ entered old id

-- The elements at `index` are removed from the lists of versions and bits, and the map has no
-- version for `id`. For all other ids, the map is unchanged.
pub record HasForgotten (old new : Ids) (id index : ℕ) : Type 0 where
  pub versions : new.versions.items ≡ remove old.versions.items index
  pub bits : new.bits.items ≡ remove old.bits.items index
  pub at : (other : ℕ) → entered new other ≡ cond (nat_eq id other) None (entered old other)
