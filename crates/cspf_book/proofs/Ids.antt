-- Lemmas on the index of the placement with an id, and on the list of the placements with other
-- ids.
use Rattle.std.proofs.Common.{◌≡◌, ℕ, zero, suc, ◌+◌, ◌-◌, ◌<◌, ◌≤◌, ◌||◌, Bool, true, false, cond, not, List, [], ◌∷◌, ◌++◌, length, map, nat_eq, remove, refl, sym, ap, ◌∙◌, arith}
use Rattle.std.specs.List.{list_any, IsDistinct, AllByRecursion}
use Rattle.std.proofs.lemmas.Cmp.{nat_eq_equiv}
use Rattle.std.proofs.lemmas.List.{append-nil, take_all, drop_all, map-append}
use Rattle.std.proofs.lemmas.List.Sums.{prefix_len-le-length}
use Rattle.std.proofs.lemmas.Map.Keys.{IsDistinct-head, IsDistinct-tail, IsDistinct-push}
use Rattle.cspf_book.specs.declared.placement.Placement.{Placement}
use Rattle.cspf_book.specs.Placements.{id_of, has_id, others, index_of_id}
use Rattle.cspf_book.specs.PlacedRoutes.{HaveDistinctIds}

-- Removing at an index past the last placement changes nothing.
pub remove-behind : (placements : List Placement) (at : ℕ) → length placements ≤ at → remove placements at ≡ placements
remove-behind placements at behind =
    rw (take_all at placements behind, drop_all (suc at) placements (omega arith)) (append-nil placements)

-- The index of an id is at most the number of placements.
pub index_of-le : (id : ℕ) (placements : List Placement) → index_of_id id placements ≤ length placements
index_of-le id placements = prefix_len-le-length (λ p. not (nat_eq (id_of p) id)) placements

-- If no placement has the id, the placements with other ids are all placements.
others-none : (id : ℕ) (placements : List Placement) → AllByRecursion (λ y. nat_eq id y ≡ false) (map id_of placements)
    → others id placements ≡ placements
others-none id [] none = refl
others-none id (p ∷ ps) none =
    ap (λ b. cond (not b) (p ∷ others id ps) (others id ps)) (nat_eq_equiv.symm (id_of p) id ∙ none.0)
    ∙ ap (λ qs. p ∷ qs) (others-none id ps none.1)

-- If the placement at the index of an id is removed, the placements with other ids are left.
pub remove-index_of : (id : ℕ) (placements : List Placement) → HaveDistinctIds placements
    → remove placements (index_of_id id placements) ≡ others id placements
remove-index_of id [] own = refl
remove-index_of id (p ∷ ps) own =
    elim (nat_eq (id_of p) id) as (λ b. nat_eq (id_of p) id ≡ b
    → remove (p ∷ ps) (cond (not b) (1 + index_of_id id ps) 0) ≡ cond (not b) (p ∷ others id ps) (others id ps)) [
      | true ↦ λ is. sym (others-none id ps (rewritten (id_of p) id is (IsDistinct-head nat_eq (id_of p) (map id_of ps) own)))
      | false ↦ λ _. later (1 + index_of_id id ps) (index_of_id id ps) (omega arith) ∙ ap (λ qs. p ∷ qs) (remove-index_of id ps (IsDistinct-tail nat_eq (id_of p) (map id_of ps) own))
    ] refl
  where
    rewritten : (m n : ℕ) → nat_eq m n ≡ true → AllByRecursion (λ y. nat_eq m y ≡ false) (map id_of ps) → AllByRecursion (λ y. nat_eq n y ≡ false) (map id_of ps)
    rewritten m n is all = let same : n ≡ m = grind arith in rw same all

    later : (m n : ℕ) → m ≡ suc n → remove (p ∷ ps) m ≡ p ∷ remove ps n
    later m n e = rw e refl

-- An id that no placement has is also the id of none of the placements that `others` returns.
kept : (id m : ℕ) (placements : List Placement) → AllByRecursion (λ y. nat_eq m y ≡ false) (map id_of placements)
    → AllByRecursion (λ y. nat_eq m y ≡ false) (map id_of (others id placements))
kept id m [] all = all
kept id m (q ∷ qs) all =
    elim (nat_eq (id_of q) id) as (λ b. AllByRecursion (λ y. nat_eq m y ≡ false) (map id_of (cond (not b) (q ∷ others id qs) (others id qs)))) [
      | true ↦ kept id m qs all.1
      | false ↦ (all.0, kept id m qs all.1)
    ]

-- If the ids of all placements are distinct, the ids of the placements that `others` returns are
-- distinct, too.
pub own_ids-others : (id : ℕ) (placements : List Placement) → HaveDistinctIds placements → HaveDistinctIds (others id placements)
unfolding IsDistinct
own_ids-others id [] own = own
own_ids-others id (p ∷ ps) own =
    elim (nat_eq (id_of p) id) as (λ b. HaveDistinctIds (cond (not b) (p ∷ others id ps) (others id ps))) [
      | true ↦ own_ids-others id ps own.1
      | false ↦ (kept id (id_of p) ps own.0, own_ids-others id ps own.1)
    ]

-- None of the placements that `others` returns for an id has this id.
none-others : (id : ℕ) (placements : List Placement) → list_any (nat_eq id) (map id_of (others id placements)) ≡ false
none-others id [] = refl
none-others id (p ∷ ps) =
    elim (nat_eq (id_of p) id) as (λ b. nat_eq (id_of p) id ≡ b → list_any (nat_eq id) (map id_of (cond (not b) (p ∷ others id ps) (others id ps))) ≡ false) [
      | true ↦ λ _. none-others id ps
      | false ↦ λ off. neither _ _ (nat_eq_equiv.symm id (id_of p) ∙ off) (none-others id ps)
    ] refl
  where
    neither : (a b : Bool) → a ≡ false → b ≡ false → (a || b) ≡ false
    neither true b first second = first
    neither false b first second = second

-- If the ids of placements are distinct, they stay distinct when a placement replaces the placement
-- with its id.
pub own_ids-placed : (placements : List Placement) (p : Placement) → HaveDistinctIds placements
    → HaveDistinctIds (others (id_of p) placements ++ p ∷ [])
own_ids-placed placements p own =
    rw (map-append id_of (others (id_of p) placements) (p ∷ []))
    (IsDistinct-push nat_eq_equiv (map id_of (others (id_of p) placements)) (id_of p) (own_ids-others (id_of p) placements own) (none-others (id_of p) placements))

-- If the index of an id is the number of placements, no placement has the id.
pub none-behind : (id : ℕ) (placements : List Placement) → index_of_id id placements ≡ length placements
    → has_id id placements ≡ false
none-behind id [] behind = refl
none-behind id (p ∷ ps) behind =
    elim (nat_eq (id_of p) id) as (λ b. cond (not b) (1 + index_of_id id ps) 0 ≡ suc (length ps) → (b || has_id id ps) ≡ false) [
      | true ↦ λ e. absurd (omega arith)
      | false ↦ λ e. none-behind id ps (omega arith)
    ] behind

-- If the index of an id is less than the number of placements, one of the placements has the id.
pub id_at-index_of : (id : ℕ) (placements : List Placement) → index_of_id id placements < length placements
    → has_id id placements ≡ true
id_at-index_of id [] within = absurd (omega arith)
id_at-index_of id (p ∷ ps) within =
    elim (nat_eq (id_of p) id) as (λ b. cond (not b) (1 + index_of_id id ps) 0 < suc (length ps) → (b || has_id id ps) ≡ true) [
      | true ↦ λ _. refl
      | false ↦ λ e. id_at-index_of id ps (omega arith)
    ] within

-- Let there be at most `most` placements, and remove the placement at index `at`, if there is one.
-- If `at` isn't `most`, fewer than `most` placements are left.
pub few_kept : (placements : List Placement) (at most : ℕ) → at ≤ length placements → length placements ≤ most
    → (at ≡ most → ⊥) → length (remove placements at) < most
few_kept [] zero most within few apart = omega arith
few_kept [] (suc at) most within few apart = absurd (omega arith)
few_kept (p ∷ ps) zero most within few apart = omega arith
few_kept (p ∷ ps) (suc at) most within few apart =
    let rest = few_kept ps at (most - 1) (omega arith) (omega arith) (λ e. apart (omega arith)) in omega (arith, rest)
