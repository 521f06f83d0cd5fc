-- Two lists whose elements are related, position by position.
use Rattle.std.proofs.Common.{◌≡◌, ℕ, suc, ◌<◌, ◌≤◌, List, [], ◌∷◌, ◌++◌, length, length-append, get_or, All, Some, refl, ap, take, arith}
use Rattle.std.specs.List.{AllZip}
use Rattle.cspf_serve.specs.NumberedPairs.{AreNumberedPairs}
use Rattle.std.proofs.Math.Seq.{take-append_seam}
use Rattle.std.proofs.lemmas.Slice.Zip.{AllZip-long}
use Rattle.std.proofs.lemmas.List.Elements.{All-cons, All-head, All-nil, All-pop, All-tail}

-- if two lists are related and two related elements are added at their ends, the longer lists are
-- related
pub pairs_push : {A B : Type 0} (R : A → B → Type 0) (xs : List A) (ys : List B) (x : A) (y : B) → AllZip R xs ys → R x y → AllZip R (xs ++ x ∷ []) (ys ++ y ∷ [])
pairs_push R [] [] x y all one = (one, tt)
pairs_push R (a ∷ xs) (b ∷ ys) x y all one = (all.0, pairs_push R xs ys x y all.1 one)
pairs_push R xs ys x y all one = absurd all

-- A relation holds at each position of two lists, and a fact holds of each element of the first
-- list. Then both the relation and the fact hold at each position.
pub pairs_with : {A B : Type 0} (R : A → B → Type 0) (P : A → Type 0) (xs : List A) (ys : List B) → AllZip R xs ys → All P xs → AllZip (λ x y. R x y × P x) xs ys
pairs_with R P [] [] all each = tt
pairs_with R P (x ∷ xs) (y ∷ ys) all each = ((all.0, All-head P x xs each), pairs_with R P xs ys all.1 (All-tail P x xs each))
pairs_with R P xs ys all each = absurd all

-- At each position, `R` holds of the elements of `xs` and `ys`, and `S` holds of the elements of
-- `ys` and `zs`. If `R` and `S` together imply `T`, then `T` holds of the elements of `xs` and `zs`
-- at each position. `R` and `T` also depend on the number of the position.
pub numbered_through : {A B C : Type 0} (R : ℕ → A → B → Type 0) (S : B → C → Type 0) (T : ℕ → A → C → Type 0) → ((n : ℕ) (x : A) (y : B) (z : C) → R n x y → S y z → T n x z)
    → (n : ℕ) (xs : List A) (ys : List B) (zs : List C) → AreNumberedPairs R n xs ys → AllZip S ys zs → AreNumberedPairs T n xs zs
numbered_through R S T both n [] [] [] r s = tt
numbered_through R S T both n [] (y ∷ ys) zs r s = absurd r
numbered_through R S T both n (x ∷ xs) [] zs r s = absurd r
numbered_through R S T both n (x ∷ xs) (y ∷ ys) (z ∷ zs) r s = (both n x y z r.0 s.0, numbered_through R S T both (suc n) xs ys zs r.1 s.1)
numbered_through R S T both n xs ys zs r s = absurd s

pub numbered_weaker : {A B : Type 0} (R S : ℕ → A → B → Type 0) → ((n : ℕ) (x : A) (y : B) → R n x y → S n x y)
    → (n : ℕ) (xs : List A) (ys : List B) → AreNumberedPairs R n xs ys → AreNumberedPairs S n xs ys
numbered_weaker R S weaker n [] [] all = tt
numbered_weaker R S weaker n (x ∷ xs) (y ∷ ys) all = (weaker n x y all.0, numbered_weaker R S weaker (suc n) xs ys all.1)
numbered_weaker R S weaker n xs ys all = absurd all

-- if the relation of two elements implies a fact about the second element, this fact holds of each
-- element of the second list
pub numbered_second : {A B : Type 0} (R : ℕ → A → B → Type 0) (P : B → Type 0) → ((n : ℕ) (x : A) (y : B) → R n x y → P y)
    → (n : ℕ) (xs : List A) (ys : List B) → AreNumberedPairs R n xs ys → All P ys
numbered_second R P holds n [] [] all = All-nil P
numbered_second R P holds n (x ∷ xs) (y ∷ ys) all = All-cons P y ys (holds n x y all.0) (numbered_second R P holds (suc n) xs ys all.1)
numbered_second R P holds n xs ys all = absurd all

pub length_numbered : {A B : Type 0} (R : ℕ → A → B → Type 0) (n : ℕ) (xs : List A) (ys : List B) → AreNumberedPairs R n xs ys → length ys ≡ length xs
length_numbered R n [] [] all = refl
length_numbered R n (x ∷ xs) (y ∷ ys) all = ap suc (length_numbered R (suc n) xs ys all.1)
length_numbered R n xs ys all = absurd all

-- The list `ys` has one element for each element of `all` before `x`. If `room` is at least the
-- length of `all`, `ys` has fewer than `room` elements.
pub room_for_next : {A B : Type 0} (R : A → B → Type 0) (before : List A) (ys : List B) (x : A) (left after all : List A) (room : ℕ)
    → AllZip R before ys → before ++ left ≡ all → left ≡ x ∷ after → length all ≤ room → length ys < room
room_for_next R before ys x left after all room pairs whole next most =
    omega (arith, AllZip-long R before ys pairs, length-append before left, ap length whole, ap length next, most)
