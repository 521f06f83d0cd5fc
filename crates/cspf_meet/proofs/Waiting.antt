-- Lemmas on the routers that wait, when one router more waits or one is taken from the heap.
use Rattle.std.proofs.Common.{◌≡◌, ◌≢◌, ◌⊎◌, inl, inr, ℕ, ◌+◌, ◌*◌, ◌/◌, ◌%◌, ◌<◌, ◌≤◌, List, [], ◌∷◌, length, length-set, replicate, set, refl, sym, ap, subst, ◌∙◌, arith, rules}
use Rattle.std.specs.List.{Contains}
use Rattle.std.specs.List.Sorted.{IsPermutation}
use Rattle.std.specs.declared.cmp.Reverse.{Reverse}
use Rattle.std.proofs.lemmas.Bool.{cases_lt}
use Rattle.std.proofs.lemmas.List.{get_or_past, get_or-replicate, get_or-set_same, get_or-set_other, length-replicate}
use Rattle.std.proofs.lemmas.List.Elements.{Contains-append_cases, Contains-append_right}
use Rattle.std.proofs.lemmas.List.Sorted.{Contains-permutation}
use Rattle.cspf_graph.proofs.RouterIndexes.{same_or_not}
use Rattle.cspf_meet.specs.Labels.{RanksFall, waiting_key, rank_at}

-- The ranks fall if one rank is lowered, its router waits afterwards, and all others that waited
-- still wait.
pub falls_at : (old new : List ℕ) (Before After : ℕ → Type 0) (at rank : ℕ) → at < length old → new ≡ set old at rank → rank ≤ rank_at old at → After at
    → ((v : ℕ) → v ≢ at → rank_at new v ≡ rank_at old v → Before v → After v) → RanksFall old new Before After
falls_at old new Before After at rank within is less waits others =
    let same : (v : ℕ) → v ≢ at → rank_at new v ≡ rank_at old v = λ v ne. ap (λ rs. rank_at rs v) is ∙ get_or-set_other old at v rank 0 ne in
    record {
      lower = λ v.
          elim (same_or_not v at) [
            | inl here ↦ omega (arith, less, ap (rank_at new) here, ap (rank_at old) here, ap (λ rs. rank_at rs at) is, get_or-set_same old at rank 0 within)
            | inr ne ↦ omega (arith, same v ne)
          ];
      kept = λ v.
          elim (same_or_not v at) [
            | inl here ↦ inl (subst After (sym here) waits)
            | inr ne ↦ inr (same v ne, others v ne (same v ne))
          ];
    }

module _ (x : Reverse ℕ) (old new : List (Reverse ℕ)) (moved : IsPermutation (x ∷ old) new) where
  pub key_there : Contains new x
  key_there = Contains-permutation (x ∷ old) new x moved (0, omega arith, refl)

  pub keys_there : (y : Reverse ℕ) → Contains old y → Contains new y
  keys_there y has = Contains-permutation (x ∷ old) new y moved (Contains-append_right (x ∷ []) old y has)

only : (x y : Reverse ℕ) → Contains (x ∷ []) y → x ≡ y
only x y h = search rules

-- After a key is popped from a heap, each key that was in the heap is the popped key or is still in
-- the heap.
pub keys_left : (x : Reverse ℕ) (old new : List (Reverse ℕ)) → IsPermutation old (x ∷ new) → (y : Reverse ℕ) → Contains old y → (x ≡ y) ⊎ Contains new y
keys_left x old new moved y has =
    elim (Contains-append_cases (x ∷ []) new y (Contains-permutation old (x ∷ new) y moved has)) [
      | inl here ↦ inl (only x y here)
      | inr there ↦ inr there
    ]

-- The parts of a router's key.

pub key_place : (rank v : ℕ) → v < 1024 → (rank * 1024 + v) % 1024 ≡ v
key_place rank v low = omega (arith, low)

pub key_rank : (rank v : ℕ) → v < 1024 → (rank * 1024 + v) / 1024 ≡ rank
key_rank rank v low = omega (arith, low)

pub same_key : (x : Reverse ℕ) (rank v : ℕ) → x ≡ waiting_key rank v → v < 1024 → (x.0 % 1024 ≡ v) × (x.0 / 1024 ≡ rank)
same_key x rank v is low =
    let number : x.0 ≡ rank * 1024 + v = ap (λ (k : Reverse ℕ). k.0) is in (
      omega (arith, number, low),
      omega (arith, number, low),
    )

-- The ranks before a search looks at any router.
pub begun : (items : List ℕ) (at place : ℕ) → items ≡ replicate 1024 9007199254740992 → at ≡ place → place < 1024
    → (rank_at (set items at 0) place ≡ 0) × ((v : ℕ) → v < 1024 → v ≢ place → rank_at (set items at 0) v ≡ 9007199254740992) × ((v : ℕ) → rank_at (set items at 0) v ≤ 9007199254740992)
begun items at place is same within =
    let many : length items ≡ 1024 = ap (λ (xs : List ℕ). length xs) is ∙ length-replicate {A = ℕ} 1024 9007199254740992 in
    let long : at < length items = omega (arith, many, same, within) in
    let first : rank_at (set items at 0) place ≡ 0 = ap (rank_at (set items at 0)) (sym same) ∙ get_or-set_same items at 0 0 long in
    let others : (v : ℕ) → v < 1024 → v ≢ place → rank_at (set items at 0) v ≡ 9007199254740992 = λ v low ne.
    let off : v ≢ at = λ e. ne (e ∙ same) in
    get_or-set_other items at v 0 0 off ∙ ap (λ xs. rank_at xs v) is ∙ get_or-replicate 1024 v 9007199254740992 0 low
    in (
      first,
      others,
      λ v. elim (same_or_not v place) [
        | inl here ↦ omega (arith, ap (rank_at (set items at 0)) here, first)
        | inr ne ↦ elim (cases_lt v 1024) [
          | inl low ↦ omega (arith, others v low ne)
          | inr past ↦ omega (arith, get_or_past (set items at 0) v 0 (omega (arith, past, many, length-set items at 0)))
        ]
      ],
    )
