-- The index of a row that asks is found by its id, while the rows are added one after the other.
use Rattle.std.proofs.Common.{◌≡◌, ◌≢◌, ℕ, ◌+◌, ◌<◌, Bool, true, false, cond, eqb, nat_eq, List, [], ◌∷◌, ◌++◌, Contains, length, map, take, drop, get_or, Option, Some, None, is_some, refl, sym, ap, subst, ◌∙◌, arith, suc, zero, append_assoc}
use Rattle.std.proofs.lemmas.Bool.{eqb-true, eqb-false, eq-eqb, ne_eqb}
use Rattle.std.proofs.lemmas.Grind.{take_at_read}
use Rattle.std.proofs.lemmas.List.{take-append-drop, length-take}
use Rattle.std.proofs.lemmas.Map.Keys.{IsDistinct-push, IsDistinct-head, IsDistinct-tail}
use Rattle.std.proofs.lemmas.Option.{slice_get_within}
use Rattle.std.specs.BTreeMap.{BTreeMap, get, Updates}
use Rattle.std.specs.Cmp.{nat_eq_equiv, unsigned_ties}
use Rattle.std.specs.List.{AllByRecursion, IsDistinct, list_any, slice_get}
use Rattle.std.specs.Ordering.{nat_cmp}
use Rattle.cspf_judge.specs.Requests.{HaveOwnIdsBy, RepeatsIdBy}
use Rattle.cspf_judge.specs.Reading.{place_from, place_of, ArePlaces}

pub read_there : {A : Type 0} (requests : List A) (k : ℕ) (q : A) → slice_get requests k ≡ Some q → Contains requests q
read_there [] k q found = absurd (cc)
read_there (r ∷ requests) zero q found = (0, omega arith, cc)
read_there (r ∷ requests) (suc k) q found = let behind = read_there requests k q found in (suc behind.0, omega (arith, behind.1), behind.2)

pub some_is : (found : Option ℕ) → is_some found ≡ true → (at : ℕ) × (found ≡ Some at)
some_is None there = absurd (cc)
some_is (Some at) there = (at, refl)

pub none_is : (found : Option ℕ) → is_some found ≡ false → found ≡ None
none_is None there = refl
none_is (Some at) there = absurd (cc)

-- `id_of` gives the id of a row
module _ {A : Type 0} (id_of : A → ℕ) where
  -- none of the requests has this id
  abbrev pub LackId : List A → ℕ → Type 0
  LackId requests id = AllByRecursion (λ (q : A). id_of q ≢ id) requests

  pub lack_id : (n id : ℕ) (requests : List A) → place_from id_of n id requests ≡ None → LackId requests id
  lack_id n id [] found = tt
  lack_id n id (q ∷ requests) found = go (eqb (id_of q) id) refl found (lack_id (n + 1) id requests)
    where
      go : (b : Bool) → eqb (id_of q) id ≡ b → cond b (Some n) (place_from id_of (n + 1) id requests) ≡ None → (place_from id_of (n + 1) id requests ≡ None → LackId requests id) → LackId (q ∷ requests) id
      go true same found behind = absurd (cc)
      go false other found behind = (eqb-false (id_of q) id other, behind found)

  -- If no earlier request has the id of a new request, the new request's id is found at the next
  -- index. Each other id is found at the same index as before.
  pub place_more : (n : ℕ) (requests : List A) (q : A) (id : ℕ) → LackId requests (id_of q)
      → place_from id_of n id (requests ++ q ∷ []) ≡ cond (eqb (id_of q) id) (Some (n + length requests)) (place_from id_of n id requests)
  place_more n [] q id lack = ap (λ k. cond (eqb (id_of q) id) (Some k) None) (omega arith)
  place_more n (r ∷ requests) q id lack = go (eqb (id_of r) id) (eqb (id_of q) id) refl refl (place_more (n + 1) requests q id lack.1)
    where
      go : (b c : Bool) → eqb (id_of r) id ≡ b → eqb (id_of q) id ≡ c
          → place_from id_of (n + 1) id (requests ++ q ∷ []) ≡ cond (eqb (id_of q) id) (Some (n + 1 + length requests)) (place_from id_of (n + 1) id requests)
          → cond (eqb (id_of r) id) (Some n) (place_from id_of (n + 1) id (requests ++ q ∷ [])) ≡ cond (eqb (id_of q) id) (Some (n + length (r ∷ requests))) (cond (eqb (id_of r) id) (Some n) (place_from id_of (n + 1) id requests))
      go true true first second behind = absurd (lack.0 (eqb-true (id_of r) id first ∙ sym (eqb-true (id_of q) id second)))
      go true false first second behind = rw (first, second) refl
      go false true first second behind = rw (first, behind, second) (ap Some (omega arith))
      go false false first second behind = rw (first, behind, second) refl

  -- if an index is found for an id, the request at that index has the id
  pub place_found : (n id : ℕ) (requests : List A) (index : ℕ) → place_from id_of n id requests ≡ Some index
      → (k : ℕ) × (q : A) × (index ≡ n + k) × (slice_get requests k ≡ Some q) × (id_of q ≡ id)
  place_found n id [] index found = absurd (cc)
  place_found n id (r ∷ requests) index found = go (eqb (id_of r) id) refl found (place_found (n + 1) id requests index)
    where
      go : (b : Bool) → eqb (id_of r) id ≡ b → cond b (Some n) (place_from id_of (n + 1) id requests) ≡ Some index
          → (place_from id_of (n + 1) id requests ≡ Some index → (k : ℕ) × (q : A) × (index ≡ n + 1 + k) × (slice_get requests k ≡ Some q) × (id_of q ≡ id))
          → (k : ℕ) × (q : A) × (index ≡ n + k) × (slice_get (r ∷ requests) k ≡ Some q) × (id_of q ≡ id)
      go true same found behind = (0, r, (let e : n ≡ index = cc in omega (arith, e)), refl, eqb-true (id_of r) id same)
      go false other found behind =
          let more = behind found in
          (suc more.0, more.1, omega (arith, more.2), more.3, more.4)

  -- ---- one more request is added

  no_other : (id : ℕ) (requests : List A) → LackId requests id → list_any (nat_eq id) (map id_of requests) ≡ false
  no_other id [] lack = refl
  no_other id (q ∷ requests) lack = rw (ne_eqb id (id_of q) (λ same. lack.0 (sym same)), no_other id requests lack.1) refl

  ids_more : (requests : List A) (r : A) → map id_of (requests ++ r ∷ []) ≡ map id_of requests ++ id_of r ∷ []
  ids_more [] r = refl
  ids_more (q ∷ requests) r = ap (λ ids. id_of q ∷ ids) (ids_more requests r)

  pub none_own : HaveOwnIdsBy id_of []
  unfolding IsDistinct
  none_own = tt

  module _ (requests : List A) (i : ℕ) (r : A) (within : i < length requests) (is_next : r ≡ get_or requests i r) where
    one_more : take (i + 1) requests ≡ take i requests ++ r ∷ []
    one_more = (take_at_read requests i r within).1 ∙ ap (λ next. take i requests ++ next ∷ []) (sym is_next)

    so_many : length (take i requests) ≡ i
    so_many = omega (arith, length-take i requests, within)

    pub places_next : (before after : BTreeMap ℕ ℕ) → ArePlaces id_of before (take i requests) → get nat_cmp before (id_of r) ≡ None → Updates nat_cmp before after (id_of r) (Some i)
        → ArePlaces id_of after (take (i + 1) requests)
    places_next before after places absent updates id =
        let lack = lack_id 0 (id_of r) (take i requests) (sym (places (id_of r)) ∙ absent) in
        let there : i ≡ 0 + length (take i requests) = omega (arith, so_many) in
        updates.0 id ∙ ap (λ b. cond b (Some i) (get nat_cmp before id)) (sym (unsigned_ties (id_of r) id)) ∙ ap (λ found. cond (eqb (id_of r) id) (Some i) found) (places id)
        ∙ ap (λ k. cond (eqb (id_of r) id) (Some k) (place_of id_of id (take i requests))) there ∙ sym (place_more 0 (take i requests) r id lack) ∙ ap (place_of id_of id) (sym one_more)

    pub own_next : HaveOwnIdsBy id_of (take i requests) → place_of id_of (id_of r) (take i requests) ≡ None → HaveOwnIdsBy id_of (take (i + 1) requests)
    own_next own absent =
        subst (HaveOwnIdsBy id_of) (sym one_more) (subst (λ ids. IsDistinct nat_eq ids) (sym (ids_more (take i requests) r))
        (IsDistinct-push nat_eq_equiv (map id_of (take i requests)) (id_of r) own (no_other (id_of r) (take i requests) (lack_id 0 (id_of r) (take i requests) absent))))

    pub repeats : (at : ℕ) → place_of id_of (id_of r) (take i requests) ≡ Some at → HaveOwnIdsBy id_of (take i requests) → RepeatsIdBy id_of requests (i + 1)
    repeats at found own =
        let first = place_found 0 (id_of r) (take i requests) at found in record {
          before = take i requests;
          q = r;
          after = drop (i + 1) requests;
          split = sym (take-append-drop (i + 1) requests) ∙ ap (λ front. front ++ drop (i + 1) requests) one_more ∙ append_assoc (take i requests) (r ∷ []) (drop (i + 1) requests);
          is_there = ap (λ n. n + 1) (sym so_many);
          own = own;
          again = (first.1, read_there (take i requests) first.0 first.1 first.3, first.4);
        }

  -- ---- the requests of a list

  -- if no request of a list has this id, each request of the list has a different id
  pub lack_one : (id : ℕ) (requests : List A) (q : A) → LackId requests id → Contains requests q → id_of q ≢ id
  lack_one id [] q lack (k, within, is) = absurd (omega (arith, within))
  lack_one id (r ∷ requests) q lack (zero, within, is) = λ same. lack.0 (ap id_of is ∙ same)
  lack_one id (r ∷ requests) q lack (suc k, within, is) = lack_one id requests q lack.1 (k, omega (arith, within), is)

  other_id : (id k : ℕ) (requests : List A) (q : A) → AllByRecursion (λ y. nat_eq id y ≡ false) (map id_of requests) → slice_get requests k ≡ Some q → nat_eq id (id_of q) ≡ false
  other_id id k [] q apart found = absurd (cc)
  other_id id zero (r ∷ requests) q apart found = let same : r ≡ q = cc in subst (λ (x : A). nat_eq id (id_of x) ≡ false) same apart.0
  other_id id (suc k) (r ∷ requests) q apart found = other_id id k requests q apart.1 found

  -- if no two requests have the same id, the request at an index is found by its id
  pub own_place : (n k : ℕ) (requests : List A) (q : A) → HaveOwnIdsBy id_of requests → slice_get requests k ≡ Some q → place_from id_of n (id_of q) requests ≡ Some (n + k)
  own_place n k [] q own found = absurd (cc)
  own_place n zero (r ∷ requests) q own found =
      let same : r ≡ q = cc in
      ap (λ b. cond b (Some n) (place_from id_of (n + 1) (id_of q) requests)) (eq-eqb (id_of r) (id_of q) (ap id_of same)) ∙ ap Some (omega arith)
  own_place n (suc k) (r ∷ requests) q own found =
      ap (λ b. cond b (Some n) (place_from id_of (n + 1) (id_of q) requests)) (other_id (id_of r) k requests q (IsDistinct-head nat_eq (id_of r) (map id_of requests) own) found)
      ∙ own_place (n + 1) k requests q (IsDistinct-tail nat_eq (id_of r) (map id_of requests) own) found ∙ ap Some (omega arith)

  -- the index that is found for an id is below the length of the list of requests
  pub place_within : (id : ℕ) (requests : List A) (index : ℕ) → place_of id_of id requests ≡ Some index → index < length requests
  place_within id requests index found =
      let there = place_found 0 id requests index found in
      omega (arith, there.2, slice_get_within requests there.0 there.1 there.3)
