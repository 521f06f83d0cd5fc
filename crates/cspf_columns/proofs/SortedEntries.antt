-- Lemmas on entries in order of their keys, and on inserting or removing an entry.
use Rattle.std.proofs.Common.{◌≡◌, ℕ, zero, suc, ◌<◌, ◌≤◌, ◌&&◌, Bool, true, false, T, List, [], ◌∷◌, cond, filter, length, map, get_or, slice_set, Result, IfErr, refl, sym, ap, subst, ◌∙◌, arith, rules}
use Rattle.std.specs.Ordering.{is_lt, is_eq, eq_by_cmp, ordering_reverse, ordering_index}
use Rattle.std.specs.declared.cmp.Ordering.{Ordering}
use Rattle.std.specs.declared.cmp.Ordering.TheVariants.{Less, Greater}
use Rattle.std.specs.Cmp.{IsTotalOrder, tied_itself}
use Rattle.std.specs.List.{AllWithin, AllByRecursion, IsDistinct, insert, remove as without}
use Rattle.std.specs.List.Sorted.{IsNonDecreasingBy, IsBinarySearchResult, IsPartitionPoint}
use Rattle.std.specs.FinMap.{FinMap, is_sorted, put, entries, entries-insert, entries_sorted, same_entries_map, from_entries, len-entries, len-empty}
use Rattle.std.specs.FinMap.Entries.{below_all, by_order}
use Rattle.std.proofs.lemmas.List.{nil_from_length}
use Rattle.std.proofs.lemmas.List.Sorted.{searchable_from_sorted}

-- if two tests pass, their conjunction passes
pub both : (a b : Bool) → T a → T b → T (a && b)
both a b p q = search rules

-- if the conjunction of two tests passes, the first test passes
pub both_first : (a b : Bool) → T (a && b) → T a
both_first a b h = search rules

-- if the conjunction of two tests passes, the second test passes
pub both_second : (a b : Bool) → T (a && b) → T b
both_second a b h = search rules

-- if `is_lt` passes for an ordering, the ordering is `Less`
pub less_from : (o : Ordering) → T (is_lt o) → o ≡ Less
less_from o p = search rules

-- `T b` holds exactly if the test `b` is true
pub test_from_true : (b : Bool) → b ≡ true → T b
test_from_true b e = subst T (sym e) tt

pub true_from_test : (b : Bool) → T b → b ≡ true
true_from_test b h = search rules

module _ {A K X : Type 0} {R : K → K → Ordering} (o : IsTotalOrder R) (entry : A → K × X) where
  -- if `x` is greater than `y`, then `y` is less than `x`
  pub turned_greater : (x y : K) → R x y ≡ Greater → R y x ≡ Less
  turned_greater x y e = o.antisymm y x ∙ ap ordering_reverse e

  pub turned_less : (x y : K) → R x y ≡ Less → R y x ≡ Greater
  turned_less x y e = o.antisymm y x ∙ ap ordering_reverse e

  -- putting an entry with a new key in a map inserts it between the entries with lower keys and the
  -- entries with higher keys
  pub put-gap : (xs : List A) (i : ℕ) (a : A) → i ≤ length xs
      → AllWithin (λ y. R (entry y).0 (entry a).0 ≡ Less) xs 0 i → AllWithin (λ y. R (entry y).0 (entry a).0 ≡ Greater) xs i (length xs)
      → put R (entry a).0 (entry a).1 (map entry xs) ≡ map entry (insert xs i a)
  put-gap [] zero a le below above = refl
  put-gap [] (suc i) a le below above = absurd (omega arith)
  put-gap (x ∷ xs) zero a le below above =
      ap (λ r. by_order r (entry a ∷ entry x ∷ map entry xs) (((entry x).0, (entry a).1) ∷ map entry xs) (entry x ∷ put R (entry a).0 (entry a).1 (map entry xs)))
      (turned_greater (entry x).0 (entry a).0 (above 0 x (omega arith) (omega arith)))
  put-gap (x ∷ xs) (suc i) a le below above =
      ap (λ r. by_order r (entry a ∷ entry x ∷ map entry xs) (((entry x).0, (entry a).1) ∷ map entry xs) (entry x ∷ put R (entry a).0 (entry a).1 (map entry xs)))
      (turned_less (entry x).0 (entry a).0 (below 0 x (omega arith) (omega arith)))
      ∙ ap (λ es. entry x ∷ es) (put-gap xs i a (omega arith) (λ k d l h. below (suc k) d (omega arith) (omega arith)) (λ k d l h. above (suc k) d (omega arith) (omega arith)))

  -- if the key `q` is below all keys of a list, `q` is below the key at each index
  pub below_at : (q : K) (xs : List A) → T (below_all R q (map entry xs)) → (i : ℕ) (d : A) → i < length xs → R q (entry (get_or xs i d)).0 ≡ Less
  below_at q [] below i d h = absurd (omega arith)
  below_at q (x ∷ xs) below zero d h = less_from _ (both_first _ _ below)
  below_at q (x ∷ xs) below (suc i) d h = below_at q xs (both_second _ _ below) i d (omega arith)

  -- putting an entry in a map that already has the entry's key replaces the old entry with this key
  pub put-hit : (xs : List A) (i : ℕ) (a d : A) → T (is_sorted R (map entry xs)) → i < length xs → (entry (get_or xs i d)).0 ≡ (entry a).0
      → put R (entry a).0 (entry a).1 (map entry xs) ≡ map entry (slice_set xs i a)
  put-hit [] i a d sorted h e = absurd (omega arith)
  put-hit (x ∷ xs) zero a d sorted h e =
      ap (λ r. by_order r (entry a ∷ entry x ∷ map entry xs) (((entry x).0, (entry a).1) ∷ map entry xs) (entry x ∷ put R (entry a).0 (entry a).1 (map entry xs)))
      (ap (R (entry a).0) e ∙ tied_itself o (entry a).0)
      ∙ ap (λ (k : K). (k, (entry a).1) ∷ map entry xs) e
  put-hit (x ∷ xs) (suc i) a d sorted h e =
      ap (λ r. by_order r (entry a ∷ entry x ∷ map entry xs) (((entry x).0, (entry a).1) ∷ map entry xs) (entry x ∷ put R (entry a).0 (entry a).1 (map entry xs)))
      (turned_less (entry x).0 (entry a).0 (ap (R (entry x).0) (sym e) ∙ below_at (entry x).0 xs (both_first _ _ sorted) i d (omega arith)))
      ∙ ap (λ es. entry x ∷ es) (put-hit xs i a d (both_second _ _ sorted) (omega arith) e)

  -- if the key `q` is below all keys of a list, `q` is below all keys that are left after one key
  -- is removed
  below_without : (q : K) (xs : List A) (i : ℕ) → T (below_all R q (map entry xs)) → T (below_all R q (map entry (without xs i)))
  below_without q [] zero below = tt
  below_without q [] (suc i) below = tt
  below_without q (x ∷ xs) zero below = both_second _ _ below
  below_without q (x ∷ xs) (suc i) below = both _ _ (both_first _ _ below) (below_without q xs i (both_second _ _ below))

  -- if entries are in order, they are in order after one is removed
  pub sorted_without : (xs : List A) (i : ℕ) → T (is_sorted R (map entry xs)) → T (is_sorted R (map entry (without xs i)))
  sorted_without [] zero sorted = tt
  sorted_without [] (suc i) sorted = tt
  sorted_without (x ∷ xs) zero sorted = both_second _ _ sorted
  sorted_without (x ∷ xs) (suc i) sorted = both _ _ (below_without (entry x).0 xs i (both_first _ _ sorted)) (sorted_without xs i (both_second _ _ sorted))

  -- if the key `q` is below all keys of a list, `q` is below all keys that a filter keeps
  below_filter : (p : A → Bool) (q : K) (xs : List A) → T (below_all R q (map entry xs)) → T (below_all R q (map entry (filter p xs)))
  below_filter p q [] below = tt
  below_filter p q (x ∷ xs) below = elim (p x) as (λ b. T (below_all R q (map entry (cond b (x ∷ filter p xs) (filter p xs))))) [
    | true ↦ both _ _ (both_first _ _ below) (below_filter p q xs (both_second _ _ below))
    | false ↦ below_filter p q xs (both_second _ _ below)
  ]

  -- if entries are in order, the entries that a filter keeps are in order
  pub sorted_filter : (p : A → Bool) (xs : List A) → T (is_sorted R (map entry xs)) → T (is_sorted R (map entry (filter p xs)))
  sorted_filter p [] sorted = tt
  sorted_filter p (x ∷ xs) sorted = elim (p x) as (λ b. T (is_sorted R (map entry (cond b (x ∷ filter p xs) (filter p xs))))) [
    | true ↦ both _ _ (below_filter p (entry x).0 xs (both_first _ _ sorted)) (sorted_filter p xs (both_second _ _ sorted))
    | false ↦ sorted_filter p xs (both_second _ _ sorted)
  ]

  -- if entries are in order, each key is below all later keys
  pub rises : (xs : List A) → T (is_sorted R (map entry xs)) → (i j : ℕ) (d : A) → i < j → j < length xs → R (entry (get_or xs i d)).0 (entry (get_or xs j d)).0 ≡ Less
  rises [] sorted i j d le h = absurd (omega arith)
  rises (x ∷ xs) sorted i zero d le h = absurd (omega arith)
  rises (x ∷ xs) sorted zero (suc j) d le h = below_at (entry x).0 xs (both_first _ _ sorted) j d (omega arith)
  rises (x ∷ xs) sorted (suc i) (suc j) d le h = rises xs (both_second _ _ sorted) i j d (omega arith) (omega arith)

  -- if entries are in order, comparing them with the key `k` gives first `Less`, then `Equal`, and
  -- then `Greater`
  pub searchable : (xs : List A) (k : K) → T (is_sorted R (map entry xs)) → IsNonDecreasingBy (λ y. ordering_index (R (entry y).0 k)) xs
  searchable xs k sorted = search (rules, rises, searchable_from_sorted, turned_less)

  -- if the key `q` is below all keys of a list, `q` isn't in the list
  below_apart : (q : K) (xs : List A) → T (below_all R q (map entry xs)) → AllByRecursion (λ y. eq_by_cmp R q y ≡ false) (map (λ a. (entry a).0) xs)
  below_apart q [] below = tt
  below_apart q (x ∷ xs) below = (ap is_eq (less_from _ (both_first _ _ below)), below_apart q xs (both_second _ _ below))

  -- if keys are in order, no two of them are equal
  pub distinct : (xs : List A) → T (is_sorted R (map entry xs)) → IsDistinct (eq_by_cmp R) (map (λ a. (entry a).0) xs)
  unfolding IsDistinct
  distinct [] sorted = tt
  distinct (x ∷ xs) sorted = (below_apart (entry x).0 xs (both_first _ _ sorted), distinct xs (both_second _ _ sorted))

-- if a search finds no item, it returns the index between the items that compare as `Less` and the
-- items that compare as `Greater`
pub gap_from : {X : Type 0} (ord : X → Ordering) (xs : List X) (r : Result ℕ ℕ) → IsBinarySearchResult ord xs r → IsNonDecreasingBy (λ y. ordering_index (ord y)) xs
    → IfErr r (IsPartitionPoint (λ y. ord y ≡ Less) (λ y. ord y ≡ Greater) xs)
gap_from ord xs r found rising = search rules

module _ {K X : Type 0} {R : K → K → Ordering} (o : IsTotalOrder R) where
  -- if the key `k` is below all keys of a list of entries, an entry with the key `k` is inserted at
  -- the start of the list
  put_front : (k : K) (v : X) (es : List (K × X)) → T (below_all R k es) → put R k v es ≡ (k, v) ∷ es
  put_front k v [] below = refl
  put_front k v (e ∷ es) below = ap (λ r. by_order r ((k, v) ∷ e ∷ es) ((e.0, v) ∷ es) (e ∷ put R k v es)) (less_from _ (both_first _ _ below))

  -- if entries are in order, they are the entries of the map that is made from them
  pub entries-from_entries : (es : List (K × X)) → T (is_sorted R es) → entries (from_entries {R = R} es) ≡ es
  entries-from_entries [] sorted = nil_from_length _ (sym (len-entries _) ∙ len-empty R X)
  entries-from_entries (e ∷ es) sorted =
      entries-insert o (from_entries es) e.0 e.1 ∙ ap (put R e.0 e.1) (entries-from_entries es (both_second _ _ sorted)) ∙ put_front e.0 e.1 es (both_first _ _ sorted)

  -- making a map from the entries of the map `m` gives `m` again
  pub from_entries-entries : (m : FinMap R X) (es : List (K × X)) → entries m ≡ es → from_entries {R = R} es ≡ m
  from_entries-entries m es e = same_entries_map _ _ (entries-from_entries es (subst (λ fs. T (is_sorted R fs)) e (entries_sorted m)) ∙ sym e)
