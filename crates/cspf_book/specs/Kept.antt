-- Private: the counted bandwidth that a book stores for each key of a link, and how these sums
-- change.
use Rattle.std.specs.Prelude.{◌≡◌, ◌+◌, ◌^◌, ◌<◌, ◌≤◌, ◌&&◌, ℕ, true, cond, Some, List, [], ◌∷◌, length, nat_le, slice_index, slice_index_or, unwrap_or, IsSome}
use Rattle.std.specs.BTreeMap.{get}
use Rattle.std.specs.Ordering.{eq_by_cmp}
use Rattle.cspf_book.specs.declared.path.Passed.{Passed}
use Rattle.cspf_model.specs.Database.{Key, key_cmp}
use Rattle.cspf_book.specs.declared.counts.Counts.{Counts}
use Rattle.cspf_book.specs.declared.placement.Placement.{Placement}
use Rattle.cspf_book.specs.Placements.{has_key, bandwidth_on, counted}

-- the sums at a key where no bandwidth is counted: 0 at each of the eight priorities
abbrev pub no_sums : List ℕ
no_sums = 0 ∷ 0 ∷ 0 ∷ 0 ∷ 0 ∷ 0 ∷ 0 ∷ 0 ∷ []

-- the stored sums at a key, one for each priority; a key without an entry has the sums 0
abbrev pub sums_at : Counts → Key → List ℕ
sums_at c k = unwrap_or (get key_cmp c.sums k) no_sums

-- the stored sum at a key and a priority
abbrev pub sum_at : Counts → Key → ℕ → ℕ
sum_at c k priority = slice_index (sums_at c k) priority

-- At each key and priority, the stored sum is the bandwidth that the placements count there.
pub record IsCountOf (c : Counts) (placements : List Placement) : Type 0 where
  pub at : (k : Key) (priority : ℕ) → priority < 8 → sum_at c k priority ≡ counted placements k priority

-- The sums at all keys and priorities are below 2 ^ 127.
pub record AreSmall (c : Counts) : Type 0 where
  pub at : (k : Key) (priority : ℕ) → priority < 8 → sum_at c k priority < 2 ^ 127

-- At each key and priority, the stored sum is at least the bandwidth that this placement counts
-- there.
pub record IsWithinSums (c : Counts) (p : Placement) : Type 0 where
  pub at : (k : Key) (priority : ℕ) → priority < 8 → bandwidth_on k priority p ≤ sum_at c k priority

-- `c` has an entry of sums at the key of each of these links.
pub record HasKeys (c : Counts) (links : List Passed) : Type 0 where
  pub at : (k : Key) → has_key links k ≡ true → IsSome (get key_cmp c.sums k)

-- If there is a placement at index `at`, `c` has an entry of sums for each link of this placement's
-- route.
abbrev pub HasKeysAt : Counts → List Placement → ℕ → Type 0
HasKeysAt c placements at = (d : Placement) → at < length placements → HasKeys c (slice_index_or placements at d).route

-- Each key with an entry in `old` has an entry in `new`.
pub record KeepsKeys (old new : Counts) : Type 0 where
  pub at : (k : Key) → IsSome (get key_cmp old.sums k) → IsSome (get key_cmp new.sums k)

-- `old` and `new` have the same sums at all keys and priorities.
pub record HasSameSums (old new : Counts) : Type 0 where
  pub at : (k : Key) (priority : ℕ) → priority < 8 → sum_at new k priority ≡ sum_at old k priority

-- `new` has these sums at `key`. Its other entries are the entries of `old`.
pub record HasSumsAt (old new : Counts) (key : Key) (sums : List ℕ) : Type 0 where
  pub at : (k : Key) → get key_cmp new.sums k ≡ cond (eq_by_cmp key_cmp key k) (Some sums) (get key_cmp old.sums k)

-- At `key`, the sums of `d` are greater than the sums of `c` by `bandwidth`, at each priority from
-- `hold` to 7. All other sums are the same.
pub record HasMoreAt (c d : Counts) (key : Key) (hold bandwidth : ℕ) : Type 0 where
  pub at : (k : Key) (priority : ℕ) → priority < 8
      → sum_at d k priority ≡ sum_at c k priority + cond (nat_le hold priority && eq_by_cmp key_cmp key k) bandwidth 0

-- At the keys of these links, the sums of `d` are greater than the sums of `c` by `bandwidth`, at
-- each priority from `hold` to 7. All other sums are the same.
pub record HasMoreAlong (c d : Counts) (links : List Passed) (hold bandwidth : ℕ) : Type 0 where
  pub at : (k : Key) (priority : ℕ) → priority < 8
      → sum_at d k priority ≡ sum_at c k priority + cond (nat_le hold priority && has_key links k) bandwidth 0
