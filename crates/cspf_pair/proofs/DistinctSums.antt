-- Sums over items of a list. If the items differ from each other, their sum is at most the sum over
-- the whole list.
use Rattle.std.proofs.Common.{◌≡◌, ℕ, zero, suc, ◌+◌, ◌≤◌, List, [], ◌∷◌, Bool, true, false, cond, Some, All, AllPairs, Contains, slice_get, sum_by, refl, ap, ◌∙◌, arith}
use Rattle.std.proofs.lemmas.List.Elements.{All-head, All-tail, All-weaker}
use Rattle.std.proofs.lemmas.List.Sums.{sum_by-cons, sum_by-le-sum_by}
use Rattle.std.proofs.lemmas.Option.{slice_get-get_or, none-some, same_Some}

-- If all pairs of a list are in a relation, the first item is in this relation to all later items.
pub AllPairs-head : {X : Type 0} (R : X → X → Type 0) (x : X) (xs : List X) → AllPairs R (x ∷ xs) → All (R x) xs
AllPairs-head R x xs pairs = λ i d lt. pairs 0 (suc i) d (omega arith) (omega (arith, lt))

pub AllPairs-tail : {X : Type 0} (R : X → X → Type 0) (x : X) (xs : List X) → AllPairs R (x ∷ xs) → AllPairs R xs
AllPairs-tail R x xs pairs = λ i j d lt within. pairs (suc i) (suc j) d (omega (arith, lt)) (omega (arith, within))

-- The function `f`, but 0 for each item that `e` takes for `x`.
abbrev but_for : {X : Type 0} → (X → X → Bool) → X → (X → ℕ) → X → ℕ
but_for e x f y = cond (e x y) 0 (f y)

module _ {X : Type 0} (e : X → X → Bool) (itself : (x : X) → e x x ≡ true) where
  no_more : (x : X) (f : X → ℕ) (y : X) → but_for e x f y ≤ f y
  no_more x f y = elim (e x y) as (λ b. cond b 0 (f y) ≤ f y) [ true ↦ omega arith | false ↦ omega arith ]

  -- Without an item of the list, the sum over the list is smaller by at least this item.
  without_item : (x : X) (f : X → ℕ) (rows : List X) (k : ℕ) → slice_get rows k ≡ Some x
      → sum_by (but_for e x f) rows + f x ≤ sum_by f rows
  without_item x f [] k found = absurd (none-some x found)
  without_item x f (r ∷ rows) zero found =
      let same = same_Some r x found in
      let none : but_for e x f r ≡ 0 = ap (λ b. cond b 0 (f r)) (ap (e x) same ∙ itself x) in
      let value = ap f same in
      let less = sum_by-le-sum_by (but_for e x f) f rows (no_more x f) in
      let first = sum_by-cons (but_for e x f) r rows in
      let second = sum_by-cons f r rows in
      omega (arith, none, value, less, first, second)
  without_item x f (r ∷ rows) (suc k) found =
      let rest = without_item x f rows k found in
      let first = sum_by-cons (but_for e x f) r rows in
      let second = sum_by-cons f r rows in
      let less = no_more x f r in
      omega (arith, rest, first, second, less)

  -- Leaving out an item that the list doesn't have leaves the sum as it is.
  not_in : (x : X) (f : X → ℕ) (ys : List X) → All (λ y. e x y ≡ false) ys → sum_by (but_for e x f) ys ≡ sum_by f ys
  not_in x f [] apart = refl
  not_in x f (y ∷ ys) apart =
      let here : but_for e x f y ≡ f y = ap (λ b. cond b 0 (f y)) (All-head (λ z. e x z ≡ false) y ys apart) in
      let rest = not_in x f ys (All-tail (λ z. e x z ≡ false) y ys apart) in
      let first = sum_by-cons (but_for e x f) y ys in
      let second = sum_by-cons f y ys in
      omega (arith, here, rest, first, second)

  module _ (R : X → X → Type 0) (differ : (x y : X) → R x y → e x y ≡ false) where
    pub distinct_sum : (f : X → ℕ) (xs rows : List X) → AllPairs R xs → All (Contains rows) xs
        → sum_by f xs ≤ sum_by f rows
    distinct_sum f [] rows apart within = omega arith
    distinct_sum f (x ∷ xs) rows apart within =
        let rest = distinct_sum (but_for e x f) xs rows (AllPairs-tail R x xs apart) (All-tail (Contains rows) x xs within) in
        let same = not_in x f xs (All-weaker (R x) (λ y. e x y ≡ false) (differ x) xs (AllPairs-head R x xs apart)) in
        let has = All-head (Contains rows) x xs within in
        let found : slice_get rows has.0 ≡ Some x = slice_get-get_or rows has.0 x has.1 ∙ ap Some has.2 in
        let less = without_item x f rows has.0 found in
        let first = sum_by-cons f x xs in
        omega (arith, rest, same, less, first)
