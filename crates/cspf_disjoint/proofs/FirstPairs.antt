-- Relations between the first items of a list and all later ones.
use Rattle.std.proofs.Common.{◌≡◌, inl, inr, ℕ, ◌+◌, ◌-◌, ◌<◌, ◌≤◌, List, length, length-drop, slice_index_or, drop, sym, ap, subst, ◌∙◌, arith}
use Rattle.std.specs.List.{All, AllPairs}
use Rattle.std.proofs.lemmas.Bool.{cases_lt}
use Rattle.std.proofs.lemmas.List.{get_or_default, get_or-drop}

-- Each of the first `n` items is in the relation to each later item.
abbrev pub FirstPairs : {X : Type 0} → (X → X → Type 0) → List X → ℕ → Type 0
FirstPairs {X} R xs n = (i j : ℕ) (d : X) → i < n → i < j → j < length xs → R (slice_index_or xs i d) (slice_index_or xs j d)

pub no_pairs : {X : Type 0} (R : X → X → Type 0) (xs : List X) → FirstPairs R xs 0
no_pairs R xs = λ i j d low lt within. absurd (omega (arith, low))

pub all_pairs : {X : Type 0} (R : X → X → Type 0) (xs : List X) (n : ℕ) → length xs ≤ n → FirstPairs R xs n → AllPairs R xs
all_pairs R xs n whole pairs = λ i j d lt within. pairs i j d (omega (arith, whole, lt, within)) lt within

pub more_pairs : {X : Type 0} (R : X → X → Type 0) (xs : List X) (n : ℕ) (x : X) → n < length xs → x ≡ slice_index_or xs n x → All (R x) (drop (n + 1) xs)
    → FirstPairs R xs n → FirstPairs R xs (n + 1)
more_pairs R xs n x lt is later pairs = λ i j d low less within.
    elim (cases_lt i n) [
      | inl before ↦ pairs i j d before less within
      | inr ge ↦
          let at : i ≡ n = omega (arith, low, ge) in
          let here : slice_index_or xs i d ≡ x = ap (λ k. slice_index_or xs k d) at ∙ get_or_default xs n d x lt ∙ sym is in
          let rest : slice_index_or (drop (n + 1) xs) (j - (n + 1)) d ≡ slice_index_or xs j d =
          (let same : n + 1 + (j - (n + 1)) ≡ j = omega (arith, less, at) in get_or-drop (n + 1) xs (j - (n + 1)) d ∙ ap (λ k. slice_index_or xs k d) same) in
          subst (λ y. R y (slice_index_or xs j d)) (sym here)
          (subst (R x) rest (later (j - (n + 1)) d (let long = length-drop (n + 1) xs in omega (arith, long, less, at, within))))
    ]
