-- How the index of the placement with an id is found from the versions in which the placements were
-- placed. Versions rise if they are strictly increasing.
use Rattle.std.proofs.Common.{◌≡◌, ℕ, zero, suc, ◌+◌, ◌<◌, ◌≤◌, ◌++◌, Bool, true, false, cond, not, Option, Some, None, List, [], ◌∷◌, length, map, nat_eq, remove, slice_index, refl, sym, ap, subst, ◌∙◌, eqb-true, eq-eqb, ltb, ltb-true, ltb-false, inl, inr, arith}
use Rattle.std.specs.List.{AllByRecursion}
use Rattle.std.specs.List.Sorted.{IsNonDecreasing, IsPartitionPoint}
use Rattle.std.specs.Ordering.{nat_cmp, eq_by_cmp}
use Rattle.std.proofs.lemmas.Bool.{false≢true, cases_lt}
use Rattle.std.proofs.lemmas.Bool.Decides.{nat_tests}
use Rattle.std.proofs.lemmas.Cmp.{nat_eq_equiv}
use Rattle.std.proofs.lemmas.List.{length_push, map-append}
use Rattle.std.proofs.lemmas.List.Sorted.{IsNonDecreasingBy-from_default}
use Rattle.std.proofs.lemmas.Map.Keys.{IsDistinct-head, IsDistinct-tail}
use Rattle.cspf_book.specs.declared.versions.Ids.{Ids}
use Rattle.cspf_book.specs.declared.placement.Placement.{Placement}
use Rattle.cspf_book.specs.Placements.{id_of, index_of_id}
use Rattle.cspf_book.specs.RouterBits.{bits_of}
use Rattle.cspf_book.specs.PlacedRoutes.{HaveDistinctIds}
use Rattle.cspf_book.specs.ById.{IsRising, version_of, entered, IsIndexIn, AreIdsOf, HasSameIds, HasEntered, HasReplaced, HasForgotten}
use Rattle.cspf_book.proofs.RouterBits.{bits-remove}

-- The comparison of two ids by `nat_cmp` and the test `nat_eq` agree on whether the two ids are
-- equal.
pub same_test : (a b : ℕ) → eq_by_cmp nat_cmp a b ≡ nat_eq a b
same_test a b = grind (arith, nat_tests)

-- If all versions before an index are below a version, and all others are at or above it,
-- `IsIndexIn` holds for the index.
pub index_by_split : (vs : List ℕ) (version index : ℕ)
    → IsPartitionPoint (λ (v : ℕ). ltb v version ≡ true) (λ (v : ℕ). ltb v version ≡ false) vs index → IsIndexIn vs version index
index_by_split vs version index split = record {
  before = λ k within. ltb-true _ version (split.0 k 0 (omega arith) within);
  behind = λ k from within. ltb-false _ version (split.1 k 0 from within);
}

-- A lower bound of rising versions may be replaced by a lower number.
rising_lower : (low least high : ℕ) (vs : List ℕ) → least ≤ low → IsRising low vs high → IsRising least vs high
rising_lower low least high [] le rises = omega arith
rising_lower low least high (v ∷ vs) le rises = (omega (arith, rises.0), rises.1)

-- An upper bound of rising versions may be replaced by a greater number.
pub rising_higher : (low high most : ℕ) (vs : List ℕ) → high ≤ most → IsRising low vs high → IsRising low vs most
rising_higher low high most [] le rises = omega arith
rising_higher low high most (v ∷ vs) le rises = (rises.0, rising_higher (v + 1) high most vs le rises.1)

-- Rising versions still rise if one of them is removed.
rising-remove : (low high at : ℕ) (vs : List ℕ) → IsRising low vs high → IsRising low (remove vs at) high
rising-remove low high zero [] rises = rises
rising-remove low high (suc at) [] rises = rises
rising-remove low high zero (v ∷ vs) rises = rising_lower (v + 1) low high vs (omega (arith, rises.0)) rises.1
rising-remove low high (suc at) (v ∷ vs) rises = (rises.0, rising-remove (v + 1) high at vs rises.1)

-- If rising versions are below `high`, they still rise with `high` appended.
rising-push : (low high : ℕ) (vs : List ℕ) → IsRising low vs high → IsRising low (vs ++ high ∷ []) (high + 1)
rising-push low high [] rises = (rises, omega arith)
rising-push low high (v ∷ vs) rises = (rises.0, rising-push (v + 1) high vs rises.1)

-- Each of the versions that rise from `low` on is at least `low`.
rising_least : (low high k : ℕ) (vs : List ℕ) → IsRising low vs high → k < length vs → low ≤ slice_index vs k
rising_least low high k [] rises within = absurd (omega arith)
rising_least low high zero (v ∷ vs) rises within = rises.0
rising_least low high (suc k) (v ∷ vs) rises within =
    let later = rising_least (v + 1) high k vs rises.1 (omega arith) in omega (arith, later, rises.0)

-- In a rising list of versions, a version at a lower index is lower.
rising_at : (low high i j : ℕ) (vs : List ℕ) → IsRising low vs high → i < j → j < length vs → slice_index vs i < slice_index vs j
rising_at low high i j [] rises first within = absurd (omega arith)
rising_at low high i zero (v ∷ vs) rises first within = absurd (omega arith)
rising_at low high zero (suc j) (v ∷ vs) rises first within =
    let later = rising_least (v + 1) high j vs rises.1 (omega arith) in omega (arith, later)
rising_at low high (suc i) (suc j) (v ∷ vs) rises first within = rising_at (v + 1) high i j vs rises.1 (omega arith) (omega arith)

-- In a rising list of versions, the version at an index is at most each version at this or a later
-- index.
rising_up_to : (low high i j : ℕ) (vs : List ℕ) → IsRising low vs high → i ≤ j → j < length vs → slice_index vs i ≤ slice_index vs j
rising_up_to low high i j [] rises first within = absurd (omega arith)
rising_up_to low high zero zero (v ∷ vs) rises first within = omega arith
rising_up_to low high (suc i) zero (v ∷ vs) rises first within = absurd (omega arith)
rising_up_to low high zero (suc j) (v ∷ vs) rises first within =
    let later = rising_least (v + 1) high j vs rises.1 (omega arith) in omega (arith, later)
rising_up_to low high (suc i) (suc j) (v ∷ vs) rises first within = rising_up_to (v + 1) high i j vs rises.1 (omega arith) (omega arith)

-- A rising list of versions is non-decreasing.
rising_sorted : (low high : ℕ) (vs : List ℕ) → IsRising low vs high → IsNonDecreasing vs
rising_sorted low high vs rises =
    IsNonDecreasingBy-from_default (λ (v : ℕ). v) vs 0 (λ i j first within. rising_up_to low high i j vs rises first within)

-- If no placement has an id, no version is found for this id.
no_version : (vs : List ℕ) (ps : List Placement) (id : ℕ) → AllByRecursion (λ y. nat_eq id y ≡ false) (map id_of ps) → version_of vs ps id ≡ None
no_version [] ps id none = refl
no_version (v ∷ vs) [] id none = refl
no_version (v ∷ vs) (p ∷ ps) id none =
    ap (λ b. cond b (Some v) (version_of vs ps id)) (nat_eq_equiv.symm (id_of p) id ∙ none.0) ∙ no_version vs ps id none.1

-- If a version is found for an id, it is the version at the index of the placement with this id.
pub version_found : (vs : List ℕ) (ps : List Placement) (id v : ℕ) → version_of vs ps id ≡ Some v
    → (index_of_id id ps < length vs) × (slice_index vs (index_of_id id ps) ≡ v)
version_found [] ps id v is = absurd (cc)
version_found (w ∷ ws) [] id v is = absurd (cc)
version_found (w ∷ ws) (p ∷ ps) id v is =
    elim (nat_eq (id_of p) id) as (λ b. cond b (Some w) (version_of ws ps id) ≡ Some v
    → (cond (not b) (1 + index_of_id id ps) 0 < suc (length ws)) × (slice_index (w ∷ ws) (cond (not b) (1 + index_of_id id ps) 0) ≡ v)) [
      | true ↦ λ e. (omega arith, (cc))
      | false ↦ λ e. let rest = version_found ws ps id v e in (omega (arith, rest.0), later (1 + index_of_id id ps) (index_of_id id ps) (omega arith) ∙ rest.1)
    ] is
  where
    later : (m n : ℕ) → m ≡ suc n → slice_index (w ∷ ws) m ≡ slice_index ws n
    later m n e = rw e refl

-- Let each placement have a version. If no version is found for an id, no placement has this id.
pub version_absent : (vs : List ℕ) (ps : List Placement) (id : ℕ) → length vs ≡ length ps → version_of vs ps id ≡ None
    → index_of_id id ps ≡ length ps
version_absent [] [] id many none = refl
version_absent [] (p ∷ ps) id many none = absurd (omega arith)
version_absent (v ∷ vs) [] id many none = absurd (omega arith)
version_absent (v ∷ vs) (p ∷ ps) id many none =
    elim (nat_eq (id_of p) id) as (λ b. cond b (Some v) (version_of vs ps id) ≡ None → cond (not b) (1 + index_of_id id ps) 0 ≡ suc (length ps)) [
      | true ↦ λ e. absurd (cc)
      | false ↦ λ e. let rest = version_absent vs ps id (omega arith) e in omega (arith, rest)
    ] none

-- If the placement with an id and its version are removed from their lists, no version is found for
-- this id. For each other id, the same version is found as before.
version_of-remove : (vs : List ℕ) (ps : List Placement) (id q : ℕ) → length vs ≡ length ps → HaveDistinctIds ps
    → version_of (remove vs (index_of_id id ps)) (remove ps (index_of_id id ps)) q ≡ cond (nat_eq id q) None (version_of vs ps q)
version_of-remove [] [] id q many own = sym (either (nat_eq id q) None)
  where
    either : (b : Bool) (x : Option ℕ) → cond b x x ≡ x
    either true x = refl
    either false x = refl
version_of-remove [] (p ∷ ps) id q many own = absurd (omega arith)
version_of-remove (v ∷ vs) [] id q many own = absurd (omega arith)
version_of-remove (v ∷ vs) (p ∷ ps) id q many own =
    elim (nat_eq (id_of p) id) as (λ b. nat_eq (id_of p) id ≡ b
    → version_of (remove (v ∷ vs) (cond (not b) (1 + index_of_id id ps) 0)) (remove (p ∷ ps) (cond (not b) (1 + index_of_id id ps) 0)) q
    ≡ cond (nat_eq id q) None (cond (nat_eq (id_of p) q) (Some v) (version_of vs ps q))) [
      | true ↦ λ is.
          let same : id_of p ≡ id = eqb-true (id_of p) id is in
          here (nat_eq id q) (nat_eq (id_of p) q) (version_of vs ps q) (ap (λ m. nat_eq m q) (sym same))
          (λ found. no_version vs ps q (subst (λ m. AllByRecursion (λ y. nat_eq m y ≡ false) (map id_of ps)) (same ∙ eqb-true id q found) (IsDistinct-head nat_eq (id_of p) (map id_of ps) own)))
      | false ↦ λ off.
          later (1 + index_of_id id ps) (index_of_id id ps) (omega arith)
          ∙ ap (cond (nat_eq (id_of p) q) (Some v)) (version_of-remove vs ps id q (omega arith) (IsDistinct-tail nat_eq (id_of p) (map id_of ps) own))
          ∙ turned (nat_eq id q) (nat_eq (id_of p) q) (version_of vs ps q) (λ is its. false≢true (sym off ∙ eq-eqb (id_of p) id (eqb-true (id_of p) q its ∙ sym (eqb-true id q is))))
    ] refl
  where
    here : (a b : Bool) (x : Option ℕ) → a ≡ b → (a ≡ true → x ≡ None) → x ≡ cond a None (cond b (Some v) x)
    here true b x same none = none refl
    here false true x same none = absurd (cc)
    here false false x same none = refl

    turned : (a b : Bool) (x : Option ℕ) → (a ≡ true → b ≡ true → ⊥) → cond b (Some v) (cond a None x) ≡ cond a None (cond b (Some v) x)
    turned true true x apart = absurd (apart refl refl)
    turned true false x apart = refl
    turned false b x apart = refl

    later : (m n : ℕ) → m ≡ suc n → version_of (remove (v ∷ vs) m) (remove (p ∷ ps) m) q ≡ cond (nat_eq (id_of p) q) (Some v) (version_of (remove vs n) (remove ps n) q)
    later m n e = rw e refl

-- Let no version be found for the id of a placement. If this placement and a version are appended
-- to the two lists, the version is found for this id. For each other id, the same version is found
-- as before.
version_of-push : (vs : List ℕ) (ps : List Placement) (v : ℕ) (p : Placement) (q : ℕ) → length vs ≡ length ps → version_of vs ps (id_of p) ≡ None
    → version_of (vs ++ v ∷ []) (ps ++ p ∷ []) q ≡ cond (nat_eq (id_of p) q) (Some v) (version_of vs ps q)
version_of-push [] [] v p q many none = refl
version_of-push [] (r ∷ rs) v p q many none = absurd (omega arith)
version_of-push (w ∷ ws) [] v p q many none = absurd (omega arith)
version_of-push (w ∷ ws) (r ∷ rs) v p q many none =
    let parts = neither (nat_eq (id_of r) (id_of p)) (version_of ws rs (id_of p)) none in
    ap (cond (nat_eq (id_of r) q) (Some w)) (version_of-push ws rs v p q (omega arith) parts.1)
    ∙ turned (nat_eq (id_of p) q) (nat_eq (id_of r) q) (version_of ws rs q) (λ is its. false≢true (sym parts.0 ∙ eq-eqb (id_of r) (id_of p) (eqb-true (id_of r) q its ∙ sym (eqb-true (id_of p) q is))))
  where
    neither : (b : Bool) (x : Option ℕ) → cond b (Some w) x ≡ None → (b ≡ false) × (x ≡ None)
    neither true x e = absurd (cc)
    neither false x e = (refl, e)

    turned : (a b : Bool) (x : Option ℕ) → (a ≡ true → b ≡ true → ⊥) → cond b (Some w) (cond a (Some v) x) ≡ cond a (Some v) (cond b (Some w) x)
    turned true true x apart = absurd (apart refl refl)
    turned true false x apart = refl
    turned false b x apart = refl

-- If the element at the same index is removed from two lists of the same length, the lists that are
-- left have the same length.
same_length-remove : (vs : List ℕ) (ps : List Placement) (index : ℕ) → length vs ≡ length ps → length (remove vs index) ≡ length (remove ps index)
same_length-remove [] [] zero many = refl
same_length-remove [] [] (suc index) many = refl
same_length-remove [] (p ∷ ps) index many = absurd (omega arith)
same_length-remove (v ∷ vs) [] index many = absurd (omega arith)
same_length-remove (v ∷ vs) (p ∷ ps) zero many = omega arith
same_length-remove (v ∷ vs) (p ∷ ps) (suc index) many =
    let rest = same_length-remove vs ps index (omega arith) in omega (arith, rest)

-- If `x` has the versions of the placements, and `y` has the same versions as `x`, `y` has the
-- versions of the placements, too.
pub ids_same : (x y : Ids) (version : ℕ) (ps : List Placement) → AreIdsOf x version ps → HasSameIds x y → AreIdsOf y version ps
ids_same x y version ps are same = record {
  many = ap length same.versions ∙ are.many;
  rising = subst (λ vs. IsRising 0 vs (version + 1)) (sym same.versions) are.rising;
  at = λ id. same.at id ∙ are.at id ∙ ap (λ vs. version_of vs ps id) (sym same.versions);
  bits = same.bits ∙ are.bits;
}

-- If `x` has the versions of the placements at the version `version`, it also has them at the next
-- version.
pub ids_later : (x : Ids) (version : ℕ) (ps : List Placement) → AreIdsOf x version ps → AreIdsOf x (version + 1) ps
ids_later x version ps are = record {
  many = are.many;
  rising = rising_higher 0 (version + 1) (version + 1 + 1) x.versions.items (omega arith) are.rising;
  at = are.at;
  bits = are.bits;
}

-- Let `v` be the version that the map has for an id. The index of `v` in the list of versions is
-- the index of the placement with this id.
pub index_by_version : (x : Ids) (version : ℕ) (ps : List Placement) (id v index : ℕ) → AreIdsOf x version ps → entered x id ≡ Some v
    → (IsNonDecreasing x.versions.items → IsIndexIn x.versions.items v index) → index ≡ index_of_id id ps
index_by_version x version ps id v index are is found =
    let its = version_found x.versions.items ps id v (sym (are.at id) ∙ is) in
    let split = found (rising_sorted 0 (version + 1) x.versions.items are.rising) in
    elim (cases_lt index (index_of_id id ps)) [
      | inl less ↦ absurd
          (let late = split.behind index (omega arith) (omega (arith, less, its.0)) in
          let early = rising_at 0 (version + 1) index (index_of_id id ps) x.versions.items are.rising less its.0 in
          omega (arith, late, early, its.1))
      | inr rest ↦ elim (cases_lt (index_of_id id ps) index) [
        | inl more ↦ absurd (let early = split.before (index_of_id id ps) more in omega (arith, early, its.1))
        | inr least ↦ omega (arith, rest, least)
      ]
    ]

-- If the map has no version for an id, the index of the id is the length of the list of versions.
pub index_behind : (x : Ids) (version : ℕ) (ps : List Placement) (id : ℕ) → AreIdsOf x version ps → entered x id ≡ None
    → length x.versions.items ≡ index_of_id id ps
index_behind x version ps id are none =
    are.many ∙ sym (version_absent x.versions.items ps id are.many (sym (are.at id) ∙ none))

-- Let a placement of the next version replace the placement with the same id. Then `z` has the
-- versions and the bits of the new list of placements.
pub ids_placed : (x y z : Ids) (version index id bits : ℕ) (ps : List Placement) (p : Placement) → AreIdsOf x version ps → HaveDistinctIds ps
    → index ≡ index_of_id id ps → id_of p ≡ id → y.versions.items ≡ x.versions.items → y.bits.items ≡ x.bits.items → bits ≡ bits_of p
    → HasEntered x y id (version + 1) → HasReplaced y z index (version + 1) bits → AreIdsOf z (version + 1) (remove ps index ++ p ∷ [])
ids_placed x y z version index id bits ps p are own at its same kept with entry replaced =
    let vs = x.versions.items in
    let left = same_length-remove vs ps index are.many in
    let versions = replaced.versions ∙ ap (λ ws. remove ws index ++ (version + 1) ∷ []) same in
    let without = λ (q : ℕ). ap (λ i. version_of (remove vs i) (remove ps i) q) at ∙ version_of-remove vs ps id q are.many own in
    let none : version_of (remove vs index) (remove ps index) (id_of p) ≡ None = without (id_of p) ∙ ap (λ b. cond b None (version_of vs ps (id_of p))) (eq-eqb id (id_of p) (sym its)) in
    record {
      many = omega (arith, ap length versions, length_push (remove vs index) (version + 1), left, length_push (remove ps index) p);
      rising = subst (λ ws. IsRising 0 ws (version + 1 + 1)) (sym versions) (rising-push 0 (version + 1) (remove vs index) (rising-remove 0 (version + 1) index vs are.rising));
      at = λ q.
          replaced.at q ∙ entry.at q
          ∙ ap (cond (nat_eq id q) (Some (version + 1))) (are.at q)
          ∙ sym (version_of-push (remove vs index) (remove ps index) (version + 1) p q left none
          ∙ ap (λ m. cond (nat_eq m q) (Some (version + 1)) (version_of (remove vs index) (remove ps index) q)) its
          ∙ ap (cond (nat_eq id q) (Some (version + 1))) (without q)
          ∙ twice (nat_eq id q) (version_of vs ps q))
          ∙ ap (λ ws. version_of ws (remove ps index ++ p ∷ []) q) (sym versions);
      bits =
          replaced.bits
          ∙ ap (λ bs. remove bs index ++ bits ∷ []) (kept ∙ are.bits)
          ∙ ap (λ b. remove (map bits_of ps) index ++ b ∷ []) with
          ∙ ap (λ bs. bs ++ bits_of p ∷ []) (bits-remove ps index)
          ∙ sym (map-append bits_of (remove ps index) (p ∷ []));
    }
  where
    twice : (b : Bool) (o : Option ℕ) → cond b (Some (version + 1)) (cond b None o) ≡ cond b (Some (version + 1)) o
    twice true o = refl
    twice false o = refl

-- If the placement with an id, its version and its bits are removed, `y` has the versions and the
-- bits of the other placements.
pub ids_forgotten : (x y : Ids) (version index id : ℕ) (ps : List Placement) → AreIdsOf x version ps → HaveDistinctIds ps
    → index ≡ index_of_id id ps → HasForgotten x y id index → AreIdsOf y (version + 1) (remove ps index)
ids_forgotten x y version index id ps are own at gone =
    let vs = x.versions.items in record {
      many = ap length gone.versions ∙ same_length-remove vs ps index are.many;
      rising =
          subst (λ ws. IsRising 0 ws (version + 1 + 1)) (sym gone.versions)
          (rising_higher 0 (version + 1) (version + 1 + 1) (remove vs index) (omega arith) (rising-remove 0 (version + 1) index vs are.rising));
      at = λ q.
          gone.at q
          ∙ ap (cond (nat_eq id q) None) (are.at q)
          ∙ sym (ap (λ i. version_of (remove vs i) (remove ps i) q) at ∙ version_of-remove vs ps id q are.many own)
          ∙ ap (λ ws. version_of ws (remove ps index) q) (sym gone.versions);
      bits = gone.bits ∙ ap (λ bs. remove bs index) are.bits ∙ bits-remove ps index;
    }
