-- A relation of two lists, element by element.
use Rattle.std.specs.Prelude.{ℕ, suc, ⊤, List, [], ◌∷◌}

-- Both lists have the same length, and the relation `R` holds of the two elements at each position.
-- `R` also depends on the number of the position, counted from `n`.
abbrev pub AreNumberedPairs : {A B : Type 0} → (ℕ → A → B → Type 0) → ℕ → List A → List B → Type 0
AreNumberedPairs R n [] [] = ⊤
AreNumberedPairs R n [] (y ∷ ys) = ⊥
AreNumberedPairs R n (x ∷ xs) [] = ⊥
AreNumberedPairs R n (x ∷ xs) (y ∷ ys) = R n x y × AreNumberedPairs R (suc n) xs ys
