-- There is only one list of the placements that lose their routes. Such a route is admitted by the
-- database before changes, and not by the database after them.
use Rattle.std.proofs.Common.{◌≡◌, ℕ, zero, suc, ◌⊎◌, List, [], ◌∷◌, map, inl, inr, refl, sym, ap, ◌∙◌, subst, arith}
use Rattle.std.specs.List.{AllPairs, Contains}
use Rattle.cspf_model.specs.Database.{Database}
use Rattle.cspf_book.specs.declared.placement.Placement.{Placement}
use Rattle.cspf_book.specs.Placements.{id_of}
use Rattle.cspf_book.specs.LostRoutes.{AreLost, ComesBefore}

head_in : {A : Type 0} (x : A) (xs : List A) → Contains (x ∷ xs) x
head_in x xs = (0, omega arith, refl)

tail_in : {A : Type 0} (x : A) (xs : List A) (p : A) → Contains xs p → Contains (x ∷ xs) p
tail_in x xs p (k, within, at) = (suc k, omega arith, at)

pub cases_in : {A : Type 0} (x : A) (xs : List A) (p : A) → Contains (x ∷ xs) p → (p ≡ x) ⊎ Contains xs p
cases_in x xs p (zero, within, at) = inl (sym at)
cases_in x xs p (suc k, within, at) = inr (k, omega arith, at)

none_in : {A : Type 0} (p : A) → Contains [] p → ⊥
none_in p (k, within, at) = omega arith

-- In this module, two lists with the same elements are equal if both are sorted by the relation
-- `R`.
module _ {A : Type 0} (R : A → A → Type 0) (one_way : (a b : A) → R a b → R b a → ⊥) where
  later : (x : A) (xs : List A) (p : A) → AllPairs R (x ∷ xs) → Contains xs p → R x p
  later x xs p ordered (k, within, at) = subst (R x) at (ordered 0 (suc k) p (omega arith) (omega arith))

  rest : (x : A) (xs : List A) → AllPairs R (x ∷ xs) → AllPairs R xs
  rest x xs ordered i j d before within = ordered (suc i) (suc j) d (omega arith) (omega arith)

  tails : (x : A) (xs ys : List A) → AllPairs R (x ∷ xs) → ((p : A) → Contains (x ∷ xs) p → Contains (x ∷ ys) p) → (p : A) → Contains xs p → Contains ys p
  tails x xs ys ordered same p has =
      elim (cases_in x ys p (same p (tail_in x xs p has))) [ inl e ↦ absurd (itself e) | inr there ↦ there ]
    where
      itself : p ≡ x → ⊥
      itself e = let r : R x x = subst (R x) e (later x xs p ordered has) in one_way x x r r

  pub same_lists : (xs ys : List A) → AllPairs R xs → AllPairs R ys → ((p : A) → Contains xs p → Contains ys p) → ((p : A) → Contains ys p → Contains xs p) → xs ≡ ys
  same_lists [] [] first second to from = refl
  same_lists [] (y ∷ ys) first second to from = absurd (none_in y (from y (head_in y ys)))
  same_lists (x ∷ xs) [] first second to from = absurd (none_in x (to x (head_in x xs)))
  same_lists (x ∷ xs) (y ∷ ys) first second to from =
      let head : x ≡ y = heads (cases_in y ys x (to x (head_in x xs))) (cases_in x xs y (from y (head_in y ys))) in
      let seconds : AllPairs R (x ∷ ys) = subst (λ z. AllPairs R (z ∷ ys)) (sym head) second in
      let tos : (p : A) → Contains (x ∷ xs) p → Contains (x ∷ ys) p = λ p has. subst (λ z. Contains (z ∷ ys) p) (sym head) (to p has) in
      let froms : (p : A) → Contains (x ∷ ys) p → Contains (x ∷ xs) p = λ p has. from p (subst (λ z. Contains (z ∷ ys) p) head has) in
      let tail : xs ≡ ys = same_lists xs ys (rest x xs first) (rest y ys second) (tails x xs ys first tos) (tails x ys xs seconds froms) in
      ap (λ z. z ∷ xs) head ∙ ap (λ zs. y ∷ zs) tail
    where
      heads : (x ≡ y) ⊎ Contains ys x → (y ≡ x) ⊎ Contains xs y → x ≡ y
      heads (inl e) other = e
      heads (inr in_ys) (inl e) = sym e
      heads (inr in_ys) (inr in_xs) = absurd (one_way x y (later x xs y first in_xs) (later y ys x second in_ys))

one_before : (p r : Placement) → ComesBefore p r → ComesBefore r p → ⊥
one_before p r (inl a) (inl b) = omega arith
one_before p r (inl a) (inr b) = omega arith
one_before p r (inr a) (inl b) = omega arith
one_before p r (inr a) (inr b) = omega arith

pub lost_once : (before after : Database) (placements : List Placement) (ids other : List ℕ) → AreLost before after placements ids → AreLost before after placements other → ids ≡ other
lost_once before after placements ids other a b =
    let same = same_lists ComesBefore one_before a.lost b.lost a.order b.order
    (λ p has. (b.members p).1 ((a.members p).0 has)) (λ p has. (a.members p).1 ((b.members p).0 has)) in
    a.are ∙ ap (map id_of) same ∙ sym b.are
