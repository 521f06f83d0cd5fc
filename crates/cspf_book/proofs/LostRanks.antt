-- The ranks of the placements that lose their routes (`IsLost`), and how the ranks are sorted. A
-- rank is 7 minus the holding priority of a placement, together with the id of the placement.
use Rattle.std.proofs.Common.{◌≡◌, ◌≢◌, ◌⊎◌, inl, inr, ℕ, ◌+◌, ◌-◌, ◌<◌, ◌≤◌, false, List, [], ◌∷◌, ◌++◌, length, map, take, get_or, set, nat_eq, refl, sym, ap, subst, ◌∙◌, arith}
use Rattle.std.specs.Ordering.{nat_cmp, is_lt, ordering_then}
use Rattle.std.specs.List.{AllPairs, Contains, swap}
use Rattle.std.specs.List.Sorted.{IsPermutation, IsSorted}
use Rattle.std.proofs.lemmas.Bool.Decides.{nat_tests, Decides-eqb}
use Rattle.std.proofs.lemmas.Cmp.{nat_eq_equiv}
use Rattle.std.proofs.lemmas.List.{take_more, map-append, map-set, get_or-map, get_or_append_left, get_or_at, get_or-take, length-map, length-take, length-append}
use Rattle.std.proofs.lemmas.List.Elements.{Contains-get_or, Contains-append_left, Contains-push, Contains-push_cases}
use Rattle.std.proofs.lemmas.List.Quantifiers.{all_pairs_push}
use Rattle.std.proofs.lemmas.List.Sorted.{ranks_by, sorted_far, IsPermutation-refl, IsPermutation-sym, IsPermutation-trans, IsPermutation-swap, IsPermutation-keeps, IsPermutation-map, Contains-permutation}
use Rattle.std.proofs.lemmas.Map.Keys.{IsDistinct-IsPermutation}
use Rattle.std.proofs.lemmas.Map.Made.{AllPairs-from_IsDistinct, IsDistinct-from_AllPairs}
use Rattle.cspf_model.specs.Database.{Database, Key, key_cmp}
use Rattle.cspf_model.proofs.Databases.Keys.{keys_total}
use Rattle.cspf_book.specs.declared.placement.Placement.{Placement}
use Rattle.cspf_book.specs.Placements.{id_of}
use Rattle.cspf_book.specs.LostRoutes.{IsLost, ComesBefore, AreLost}
use Rattle.cspf_book.specs.Following.{HaveOtherIds, order_rank, AreRanksOfLost}
use Rattle.cspf_book.specs.PlacedRoutes.{HaveDistinctIds}

-- If the ids of the placements are distinct as a list, any two of the placements have different
-- ids.
pub other_ids : (placements : List Placement) → HaveDistinctIds placements → HaveOtherIds placements
other_ids placements own i j d first within =
    let many = length-map placements id_of in
    let at_i = get_or-map id_of placements i d (id_of d) (omega (arith, within, first)) in
    let at_j = get_or-map id_of placements j d (id_of d) within in
    λ same. AllPairs-from_IsDistinct Decides-eqb (map id_of placements) own i j (id_of d) first (omega (arith, many, within)) (at_i ∙ same ∙ sym at_j)

-- If any two of the placements have different ids, the ids are distinct as a list.
distinct_ids : (placements : List Placement) → HaveOtherIds placements → HaveDistinctIds placements
distinct_ids placements other = IsDistinct-from_AllPairs Decides-eqb (map id_of placements) (pairs placements other)
  where
    pairs : (ps : List Placement) → HaveOtherIds ps → AllPairs (λ x y. x ≢ y) (map id_of ps)
    pairs [] other i j d first within = absurd (omega arith)
    pairs (p ∷ ps) other i j d first within =
        let many = length-map (p ∷ ps) id_of in
        let at_i = get_or-map id_of (p ∷ ps) i p d (omega (arith, many, within, first)) in
        let at_j = get_or-map id_of (p ∷ ps) j p d (omega (arith, many, within)) in
        λ same. other i j p first (omega (arith, many, within)) (sym at_i ∙ same ∙ at_j)

-- If any two of the placements have different ids, this is also true of the first n placements.
pub other_ids-take : (n : ℕ) (placements : List Placement) → HaveOtherIds placements → HaveOtherIds (take n placements)
other_ids-take n placements other i j d first within =
    let many = length-take n placements in
    let at_i = get_or-take n placements i d (omega (arith, many, within, first)) in
    let at_j = get_or-take n placements j d (omega (arith, many, within)) in
    λ same. other i j d first (omega (arith, many, within)) (ap id_of (sym at_i) ∙ same ∙ ap id_of at_j)

module _ (before after : Database) where
  -- Without placements, the list of ranks is empty.
  pub ranks_none : AreRanksOfLost before after [] []
  ranks_none = record {
    lost = [];
    members = λ p. (λ has. absurd (none p has), λ both. absurd (none p both.0));
    other_ids = λ i j d first within. absurd (omega arith);
    are = refl;
  }
    where
      none : (p : Placement) → Contains [] p → ⊥
      none p (k, within, is) = omega arith

  -- If the placement `p` loses its route, its rank is appended to the ranks of the earlier
  -- placements.
  pub ranks_push : (ps : List Placement) (p : Placement) (ranks : List (ℕ × ℕ)) → HaveOtherIds (ps ++ p ∷ []) → IsLost before after p
      → AreRanksOfLost before after ps ranks → AreRanksOfLost before after (ps ++ p ∷ []) (ranks ++ order_rank p ∷ [])
  ranks_push ps p ranks other lost old = record {
    lost = old.lost ++ p ∷ [];
    members = λ r. (there r, back r);
    other_ids = all_pairs_push (λ a b. id_of a ≢ id_of b) old.lost p old.other_ids apart;
    are = ap (λ rs. rs ++ order_rank p ∷ []) old.are ∙ sym (map-append order_rank old.lost (p ∷ []));
  }
    where
      there : (r : Placement) → Contains (old.lost ++ p ∷ []) r → Contains (ps ++ p ∷ []) r × IsLost before after r
      there r has =
          elim (Contains-push_cases old.lost p r has) [
            | inl earlier ↦ let both = (old.members r).0 earlier in (Contains-append_left ps (p ∷ []) r both.0, both.1)
            | inr same ↦ (subst (Contains (ps ++ p ∷ [])) same (Contains-push ps p), subst (IsLost before after) same lost)
          ]

      back : (r : Placement) → Contains (ps ++ p ∷ []) r × IsLost before after r → Contains (old.lost ++ p ∷ []) r
      back r (has, gone) =
          elim (Contains-push_cases ps p r has) [
            | inl earlier ↦ Contains-append_left old.lost (p ∷ []) r ((old.members r).1 (earlier, gone))
            | inr same ↦ subst (Contains (old.lost ++ p ∷ [])) same (Contains-push old.lost p)
          ]

      apart : (k : ℕ) (d : Placement) → k < length old.lost → id_of (get_or old.lost k d) ≢ id_of p
      apart k d within =
          let r : Placement = get_or old.lost k d in
          let at : Contains ps r = ((old.members r).0 (Contains-get_or old.lost k d within)).0 in
          let many = length-append ps (p ∷ []) in
          λ same. other at.0 (length ps) r at.1 (omega (arith, many)) (ap id_of (get_or_append_left ps (p ∷ []) r at.0 at.1 ∙ at.2) ∙ same ∙ ap id_of (sym (get_or_at ps p [] r (length ps) refl)))

  -- If the placement `p` doesn't lose its route, the ranks stay the same.
  pub ranks_kept : (ps : List Placement) (p : Placement) (ranks : List (ℕ × ℕ)) → ¬ IsLost before after p
      → AreRanksOfLost before after ps ranks → AreRanksOfLost before after (ps ++ p ∷ []) ranks
  ranks_kept ps p ranks kept old = record {
    lost = old.lost;
    members = λ r. (
      λ has. let both = (old.members r).0 has in (Contains-append_left ps (p ∷ []) r both.0, both.1),
      λ both. elim (Contains-push_cases ps p r both.0) [
        | inl earlier ↦ (old.members r).1 (earlier, both.1)
        | inr same ↦ absurd (kept (subst (IsLost before after) (sym same) both.1))
      ],
    );
    other_ids = old.other_ids;
    are = old.are;
  }

-- In this module, `p` is the placement at index i, which is checked after the first i placements.
module _ (before after : Database) (placements : List Placement) (i : ℕ) (p : Placement) (other : HaveOtherIds placements)
    (within : i < length placements) (is : p ≡ get_or placements i p) where
  whole : take (i + 1) placements ≡ take i placements ++ p ∷ []
  whole = take_more placements i p within ∙ ap (λ (r : Placement). take i placements ++ r ∷ []) (sym is)

  -- If `p` loses its route, the rank of `p` is appended to the ranks for the first i placements.
  -- This gives the ranks for the first i + 1 placements.
  pub ranks_more : (ranks new : List (ℕ × ℕ)) → IsLost before after p → new ≡ ranks ++ order_rank p ∷ []
      → AreRanksOfLost before after (take i placements) ranks → AreRanksOfLost before after (take (i + 1) placements) new
  ranks_more ranks new lost are old =
      let first = subst HaveOtherIds whole (other_ids-take (i + 1) placements other) in
      rw (whole, are) (ranks_push before after (take i placements) p ranks first lost old)

  -- If `p` doesn't lose its route, the ranks for the first i + 1 placements are the ranks for the
  -- first i placements.
  pub ranks_same : (ranks new : List (ℕ × ℕ)) → ¬ IsLost before after p → new ≡ ranks
      → AreRanksOfLost before after (take i placements) ranks → AreRanksOfLost before after (take (i + 1) placements) new
  ranks_same ranks new kept are old =
      rw (whole, are) (ranks_kept before after (take i placements) p ranks kept old)

-- Mapping a list and then swapping two elements gives the same list as swapping them first and then
-- mapping.
map-swap : {A B : Type 0} (f : A → B) (xs : List A) (i j : ℕ) → i < length xs → j < length xs
    → map f (swap xs i j) ≡ swap (map f xs) i j
map-swap f [] i j first second = refl
map-swap f (x ∷ xs) i j first second =
    map-set f (set (x ∷ xs) i (get_or (x ∷ xs) j x)) j (get_or (x ∷ xs) i x)
    ∙ ap (λ ys. set ys j (f (get_or (x ∷ xs) i x))) (map-set f (x ∷ xs) i (get_or (x ∷ xs) j x))
    ∙ ap (λ y. set (set (map f (x ∷ xs)) i y) j (f (get_or (x ∷ xs) i x))) (sym (get_or-map f (x ∷ xs) j x (f x) second))
    ∙ ap (λ y. set (set (map f (x ∷ xs)) i (get_or (map f (x ∷ xs)) j (f x))) j y) (sym (get_or-map f (x ∷ xs) i x (f x) first))

-- Each permutation of the ranks of placements has the ranks of these placements in another order.
ranked : (lost : List Placement) (sorted : List (ℕ × ℕ)) → IsPermutation (map order_rank lost) sorted
    → (order : List Placement) × IsPermutation lost order × (sorted ≡ map order_rank order)
ranked lost sorted moved =
    IsPermutation-keeps (map order_rank lost) (λ ys. (order : List Placement) × IsPermutation lost order × (ys ≡ map order_rank order))
    (lost, IsPermutation-refl lost, refl) step sorted moved
  where
    step : (ys : List (ℕ × ℕ)) (i j : ℕ) → i < length ys → j < length ys
        → (order : List Placement) × IsPermutation lost order × (ys ≡ map order_rank order)
        → (order : List Placement) × IsPermutation lost order × (swap ys i j ≡ map order_rank order)
    step ys i j first second (order, so_far, are) =
        let many : length ys ≡ length order = ap length are ∙ length-map order order_rank in
        let i_within : i < length order = omega (arith, many) in
        let j_within : j < length order = omega (arith, many) in (
          swap order i j,
          IsPermutation-trans lost order (swap order i j) so_far (IsPermutation-swap order (swap order i j) i j i_within j_within refl),
          ap (λ zs. swap zs i j) are ∙ sym (map-swap order_rank order i j i_within j_within),
        )

-- Pairs (a, m) and (b, n) are compared by their first parts, and then by their second parts. If (a,
-- m) isn't below (b, n), either b is below a, or a equals b and n is at most m.
not_below : (a b m n : ℕ) → is_lt (ordering_then (nat_cmp a b) (nat_cmp m n)) ≡ false → (b < a) ⊎ ((a ≡ b) × (n ≤ m))
not_below a b m n above = grind (arith, nat_tests)

-- Let two placements have different ids. If the rank of `r` isn't below the rank of `p`, `p`
-- precedes `r` in the list of lost placements (`ComesBefore`).
comes_before : (p r : Placement) → id_of p ≢ id_of r → is_lt (key_cmp (order_rank r) (order_rank p)) ≡ false → ComesBefore p r
comes_before p r apart above =
    elim (not_below (7 - r.hold) (7 - p.hold) (id_of r) (id_of p) above) [
      | inl lower ↦ inl (omega arith)
      | inr tied ↦ inr (omega (arith, p.priority, r.priority, tied.0), omega (arith, tied.1))
    ]

-- The ids of the sorted ranks are the ids of the placements that lose their routes, with the least
-- important placement first.
pub lost_by_rank : (before after : Database) (placements : List Placement) (ranks sorted : List (ℕ × ℕ)) (ids : List ℕ)
    → AreRanksOfLost before after placements ranks → IsPermutation ranks sorted → IsSorted key_cmp sorted
    → ids ≡ map (λ (r : ℕ × ℕ). r.1) sorted → AreLost before after placements ids
lost_by_rank before after placements ranks sorted ids old moved rising are =
    let found = ranked old.lost sorted (subst (λ rs. IsPermutation rs sorted) old.are moved) in
    let order : List Placement = found.0 in
    let reordered : IsPermutation old.lost order = found.1 in
    let ranks_are : sorted ≡ map order_rank order = found.2 in
    let own = IsDistinct-IsPermutation nat_eq nat_eq_equiv.symm (map id_of old.lost) (map id_of order) (IsPermutation-map id_of old.lost order reordered) (distinct_ids old.lost old.other_ids) in
    let apart = other_ids order own in
    let rising_ranks : IsSorted key_cmp (map order_rank order) = subst (IsSorted key_cmp) ranks_are rising in
    let many = length-map order order_rank in
    record {
      lost = order;
      members = λ p. (
        λ has. (old.members p).0 (Contains-permutation order old.lost p (IsPermutation-sym old.lost order reordered) has),
        λ both. Contains-permutation old.lost order p reordered ((old.members p).1 both),
      );
      order = λ i j d first within.
          let later = sorted_far (λ x y. is_lt (key_cmp x y)) (ranks_by keys_total (λ (k : Key). k)) (map order_rank order) rising_ranks i j (order_rank d) (omega arith) (omega (arith, many)) in
          let at_i = get_or-map order_rank order i d (order_rank d) (omega arith) in
          let at_j = get_or-map order_rank order j d (order_rank d) within in
          comes_before (get_or order i d) (get_or order j d) (apart i j d first within) (sym ((λ t. is_lt (key_cmp (at_j t) (at_i t)))) ∙ later);
      are = are ∙ ap (map (λ (r : ℕ × ℕ). r.1)) ranks_are ∙ seconds order;
    }
  where
    seconds : (ps : List Placement) → map (λ (r : ℕ × ℕ). r.1) (map order_rank ps) ≡ map id_of ps
    seconds [] = refl
    seconds (p ∷ ps) = ap (λ ns. id_of p ∷ ns) (seconds ps)
