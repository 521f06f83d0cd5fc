-- Private: the labels of a search, which routers wait, and how labels change.
use Rattle.std.specs.Prelude.{◌≡◌, ℕ, ◌+◌, ◌*◌, ◌^◌, ◌<◌, ◌≤◌, ◌⊎◌, List, Contains, slice_index_or}
use Rattle.std.specs.BinaryHeap.{heap_items}
use Rattle.std.specs.declared.cmp.Reverse.{Reverse}
use Rattle.cspf_model.specs.declared.limits.TheConstants.{MOST_ROUTERS}
use Rattle.cspf_meet.specs.declared.labels.Labels.{Labels}

-- The rank of the router with the index `v`.
abbrev pub rank_at : List ℕ → ℕ → ℕ
rank_at ranks v = slice_index_or ranks v 0

-- The key of the router with the index `v` and the given rank.
abbrev pub waiting_key : ℕ → ℕ → Reverse ℕ
waiting_key rank v = record { 0 = rank * MOST_ROUTERS + v }

-- The router with the index `v` waits to be looked at: the heap has the key of its present rank, or
-- it is among the routers that the search needn't look at.
abbrev pub IsWaiting : Labels → ℕ → Type 0
IsWaiting labels v =
    Contains (heap_items labels.heap) (waiting_key (rank_at labels.ranks.items v) v) ⊎ Contains labels.skipped.items v

-- No rank is greater in `new` than in `old`. A router with a lower rank in `new` waits there, and a
-- router that waited still waits. `Before` and `After` say which routers wait.
pub record RanksFall (old new : List ℕ) (Before After : ℕ → Type 0) : Type 0 where
  pub lower : (v : ℕ) → rank_at new v ≤ rank_at old v
  pub kept : (v : ℕ) → After v ⊎ ((rank_at new v ≡ rank_at old v) × (Before v → After v))

-- The labels fall.
abbrev pub LabelsFall : Labels → Labels → Type 0
LabelsFall old new = RanksFall old.ranks.items new.ranks.items (IsWaiting old) (IsWaiting new)

-- The router with the index `place` is taken from the heap to be looked at. Its rank is `rank`. All
-- other routers that waited still wait.
pub record IsNextWaiting (old new : Labels) (place rank : ℕ) : Type 0 where
  pub within : place < MOST_ROUTERS
  pub same : rank_at old.ranks.items place ≡ rank
  pub small : rank < 2 ^ 54
  pub left : (v : ℕ) → v < MOST_ROUTERS → IsWaiting old v → (v ≡ place) ⊎ IsWaiting new v
