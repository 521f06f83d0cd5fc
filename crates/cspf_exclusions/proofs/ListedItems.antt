-- The lists that the search for excluded links makes, item by item.
use Rattle.std.proofs.Common.{◌≡◌, ◌↔◌, ◌<◌, ◌+◌, ℕ, zero, suc, Bool, true, false, IsTrue, cond, List, [], ◌∷◌, ◌++◌, length, take, get_or, refl, sym, subst, arith}
use Rattle.std.specs.List.{All, Contains, HoldsAt}
use Rattle.std.proofs.lemmas.List.Elements.{All-nil, All-push, All-more, All-weaker, All-contains, Contains-append_left, Contains-get_or, Contains-push}

-- A test of the items of a list: it is true if an item passes, and false if none does. So it is true
-- exactly if the list contains an item that passes.
module _ {X : Type 0} (P : X → Type 0) where
  found : (xs : List X) (at : ℕ) → at < length xs → HoldsAt P xs at → (x : X) × Contains xs x × P x
  found [] at below holds = absurd (omega arith)
  found (x ∷ xs) zero below holds = (x, (0, omega arith, refl), holds x)
  found (x ∷ xs) (suc i) below holds =
      let more = found xs i (omega arith) (λ d. holds d) in
      (more.0, (suc more.1.0, (let inside = more.1.1 in omega arith), more.1.2), more.2)

  pub tested : (b : Bool) (xs : List X) → (b ≡ true → (at : ℕ) × (at < length xs) × HoldsAt P xs at) → (b ≡ false → All (λ x. ¬ P x) xs)
      → IsTrue b ↔ ((x : X) × Contains xs x × P x)
  tested true xs passes fails = ((λ _. let w = passes refl in found xs w.0 w.1 w.2), λ _. refl)
  tested false xs passes fails = ((λ t. absurd (cc t)), λ w. absurd (All-contains (λ x. ¬ P x) xs w.0 (fails refl) w.1 w.2))

  -- The test is true where an item passes, and false where none does.
  pub passes_at : (xs : List X) (i : ℕ) (d : X) → i < length xs → P (get_or xs i d) → IsTrue true ↔ ((x : X) × Contains xs x × P x)
  passes_at xs i d below holds = ((λ _. (get_or xs i d, Contains-get_or xs i d below, holds)), λ _. refl)

  pub fails_all : (xs : List X) → All (λ x. ¬ P x) xs → IsTrue false ↔ ((x : X) × Contains xs x × P x)
  fails_all xs fails = ((λ t. absurd (cc t)), λ w. absurd (All-contains (λ x. ¬ P x) xs w.0 fails w.1 w.2))

-- `out` has the items that `f` makes of those of `done` for which `P` holds. `Q` holds of each.
pub record AreListed {X Y : Type 0} (P : X → Type 0) (Q : Y → Type 0) (f : X → Y) (done : List X) (out : List Y) : Type 0 where
  pub each : All Q out
  pub whole : All (λ x. P x → Contains out (f x)) done

module _ {X Y : Type 0} (P : X → Type 0) (Q : Y → Type 0) (f : X → Y) where
  pub listed_none : AreListed P Q f [] []
  listed_none = record { each = All-nil Q; whole = All-nil (λ x. P x → Contains [] (f x)) }

  listed_next : (xs : List X) (i : ℕ) (d : X) (b : Bool) (out : List Y) → i < length xs → (IsTrue b ↔ P (get_or xs i d)) → (P (get_or xs i d) → Q (f (get_or xs i d)))
      → AreListed P Q f (take i xs) out → AreListed P Q f (take (i + 1) xs) (cond b (out ++ f (get_or xs i d) ∷ []) out)
  listed_next xs i d true out below is holds before =
      let x = get_or xs i d in
      let kept : All (λ y. P y → Contains (out ++ f x ∷ []) (f y)) (take i xs) =
      All-weaker (λ y. P y → Contains out (f y)) (λ y. P y → Contains (out ++ f x ∷ []) (f y)) (λ y has p. Contains-append_left out (f x ∷ []) (f y) (has p)) (take i xs) before.whole in
      record {
        each = All-push Q out (f x) before.each (holds (is.0 refl));
        whole = All-more (λ y. P y → Contains (out ++ f x ∷ []) (f y)) xs i d below kept (λ p. Contains-push out (f x));
      }
  listed_next xs i d false out below is holds before = record {
    each = before.each;
    whole = All-more (λ y. P y → Contains out (f y)) xs i d below before.whole (λ p. absurd (cc (is.1 p)));
  }

  -- The same for an item `x`, which the list has at the index `i`.
  pub listed_item : (xs : List X) (i : ℕ) (x : X) (b : Bool) (out : List Y) → i < length xs → x ≡ get_or xs i x → (IsTrue b ↔ P x) → (P x → Q (f x))
      → AreListed P Q f (take i xs) out → AreListed P Q f (take (i + 1) xs) (cond b (out ++ f x ∷ []) out)
  listed_item xs i x b out below here is holds before =
      subst (λ y. (IsTrue b ↔ P y) → (P y → Q (f y)) → AreListed P Q f (take (i + 1) xs) (cond b (out ++ f y ∷ []) out)) (sym here)
      (λ is_there holds_there. listed_next xs i x b out below is_there holds_there before) is holds
