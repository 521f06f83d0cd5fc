-- Elements of lists are read and set by index.
use Rattle.std.proofs.Common.{◌≡◌, ◌≢◌, ℕ, ◌<◌, suc, zero, List, [], ◌∷◌, ◌++◌, Some, length, take, drop, refl, sym, ap, ◌∙◌, arith}
use Rattle.std.proofs.lemmas.List.{take_at}
use Rattle.std.specs.List.{slice_get, slice_set}

pub one_element : {A : Type 0} (xs : List A) (i j : ℕ) (x y : A) → slice_get xs i ≡ Some x → slice_get xs j ≡ Some y → i ≡ j → x ≡ y
one_element xs i j x y is_x is_y same = some_once (sym is_x ∙ ap (slice_get xs) same ∙ is_y)
  where
    some_once : {A : Type 0} {x y : A} → Some x ≡ Some y → x ≡ y
    some_once same = cc

pub get-set_same : {X : Type 0} (xs : List X) (i : ℕ) (v : X) → i < length xs → slice_get (slice_set xs i v) i ≡ Some v
get-set_same [] i v less = absurd (omega arith)
get-set_same (x ∷ xs) zero v less = refl
get-set_same (x ∷ xs) (suc i) v less = get-set_same xs i v (omega arith)

pub get-set_other : {X : Type 0} (xs : List X) (i j : ℕ) (v : X) → i ≢ j → slice_get (slice_set xs i v) j ≡ slice_get xs j
get-set_other [] i j v apart = refl
get-set_other (x ∷ xs) zero zero v apart = absurd (apart refl)
get-set_other (x ∷ xs) zero (suc j) v apart = refl
get-set_other (x ∷ xs) (suc i) zero v apart = refl
get-set_other (x ∷ xs) (suc i) (suc j) v apart = get-set_other xs i j v (λ e. apart (ap suc e))

-- if a slice of all elements of a list is changed, the list consists of the changed elements
pub written : {A : Type 0} (old new : List A) (n : ℕ) → length new ≡ length old → n ≡ length old → take n (new ++ drop (length new) old) ≡ new
written old new n kept whole = take_at new (drop (length new) old) n (kept ∙ sym whole)
