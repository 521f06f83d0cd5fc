-- A sorted list has some router twice exactly if two neighbors in the list are equal.
use Rattle.std.proofs.Common.{◌≡◌, ◌↔◌, ℕ, ◌<◌, nat_eq, IsTrue, Bool, List, length, get_or, sym, ◌∙◌, arith}
use Rattle.std.specs.List.{IsDistinct, AllAdjacentBelow}
use Rattle.std.specs.List.Sorted.{IsPermutation}
use Rattle.std.proofs.lemmas.Bool.{eq-eqb, ne_eqb, false≢true}
use Rattle.std.proofs.lemmas.Cmp.{nat_eq_equiv}
use Rattle.std.proofs.lemmas.List.Sorted.{IsPermutation-sym}
use Rattle.std.proofs.lemmas.Map.Keys.{IsDistinct-IsPermutation, IsDistinct-from_apart, apart_from_distinct, below_from_sorted, sorted_from_strictly_increasing}

-- Numbers at two different places of a list are different if all its numbers are different.
pub twice_from_equal : (xs : List ℕ) (i j d : ℕ) → i < j → j < length xs → get_or xs i d ≡ get_or xs j d → IsDistinct nat_eq xs → ⊥
twice_from_equal xs i j d before within same all = false≢true (sym (apart_from_distinct nat_eq xs i j d all before within) ∙ eq-eqb _ _ same)

-- If each number of a list is below the next, all numbers are different.
pub distinct_from_increasing : (xs : List ℕ) → AllAdjacentBelow (λ x y. x < y) xs (length xs) → IsDistinct nat_eq xs
distinct_from_increasing xs up =
    let sorted = sorted_from_strictly_increasing xs (λ k h. up k 0 h) in
    IsDistinct-from_apart nat_eq xs (λ i j d before within.
    let below = below_from_sorted xs i j d sorted before within in
    ne_eqb (get_or xs i d) (get_or xs j d) (λ same. omega (arith, below, same)))

-- A list in another order has some number twice exactly if the list has.
pub twice-IsPermutation : (xs ys : List ℕ) (b : Bool) → IsPermutation xs ys → IsTrue b ↔ (¬ IsDistinct nat_eq ys) → IsTrue b ↔ (¬ IsDistinct nat_eq xs)
twice-IsPermutation xs ys b moved same = (
  λ t all. same.0 t (IsDistinct-IsPermutation nat_eq nat_eq_equiv.symm xs ys moved all),
  λ twice. same.1 (λ all. twice (IsDistinct-IsPermutation nat_eq nat_eq_equiv.symm ys xs (IsPermutation-sym xs ys moved) all)),
)
