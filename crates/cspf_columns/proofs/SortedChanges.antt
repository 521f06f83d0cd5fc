-- How changes are sorted by key: a list of their keys and indexes is sorted, and then the changes
-- are copied in this order.
use Rattle.std.proofs.Common.{◌≡◌, ℕ, ◌+◌, ◌<◌, false, List, [], ◌∷◌, ◌++◌, All, length, map, take, None, get_or, sym, ap, subst, ◌∙◌, arith, rules}
use Rattle.std.proofs.lemmas.Grind.{common_steps}
use Rattle.std.specs.Ordering.{is_lt, is_eq, eq_by_cmp, nat_cmp, ordering_then, ordering_reverse}
use Rattle.std.specs.declared.cmp.Ordering.{Ordering}
use Rattle.std.specs.declared.cmp.Ordering.TheVariants.{Less}
use Rattle.std.specs.List.Sorted.{IsPermutation, IsSorted}
use Rattle.std.proofs.lemmas.List.{take_more, map-append, get_or-map, get_or_default, length-map}
use Rattle.std.proofs.lemmas.List.Elements.{All-append, All-cons, All-nil}
use Rattle.std.proofs.lemmas.List.Sorted.{IsPermutation-map}
use Rattle.std.proofs.lemmas.Map.Keys.{apart_from_distinct}
use Rattle.cspf_model.specs.declared.batch.Change.{Change}
use Rattle.cspf_model.specs.declared.batch.Change.TheVariants.{Remove}
use Rattle.cspf_model.specs.Changes.{ChangeKey, change_key_cmp}
use Rattle.cspf_model.specs.Changes.{key_changed}
use Rattle.cspf_model.specs.Refusals.{AreOnceEach}
use Rattle.cspf_columns.specs.MergeSteps.{AreSortedChanges, IsPlaceOfChange}
use Rattle.cspf_model.proofs.Databases.Keys.{change_keys_total}

-- lemmas on a list of pairs; each pair has the key and the index of a change
module _ (changes : List Change) where
  -- the change whose index a pair has
  abbrev pub change_of : Change → ChangeKey × ℕ → Change
  change_of d place = get_or changes place.1 d

  -- if the key and the index of another change are appended to the list of pairs, each pair still
  -- has the key and the index of the same change
  pub places_more : (order : List (ChangeKey × ℕ)) (at : ℕ) (k : ChangeKey) → at < length changes → ((d : Change) → k ≡ key_changed (get_or changes at d))
      → All (IsPlaceOfChange changes) order → All (IsPlaceOfChange changes) (order ++ (k, at) ∷ [])
  places_more order at k within key all = search (rules, All-append, All-cons, All-nil)

  pub listed_more : (order : List (ChangeKey × ℕ)) (at : ℕ) (k : ChangeKey) (d : Change) → at < length changes → map (change_of d) order ≡ take at changes
      → map (change_of d) (order ++ (k, at) ∷ []) ≡ take (at + 1) changes
  listed_more order at k d within e = search (rules, map-append, take_more)

  -- if the changes of the first `i` pairs are copied, and the change of the next pair is appended,
  -- the changes of the first `i + 1` pairs are copied
  pub copied_more : (order : List (ChangeKey × ℕ)) (i : ℕ) (place : ChangeKey × ℕ) (c d : Change) (out : List Change) → i < length order → place ≡ get_or order i place → place.1 < length changes
      → c ≡ get_or changes place.1 c → out ≡ map (change_of d) (take i order) → out ++ c ∷ [] ≡ map (change_of d) (take (i + 1) order)
  copied_more order i place c d out h is within read e = grind (arith, common_steps, get_or_default, map-append, take_more)

  -- if the pairs of all changes are permuted, the changes of these pairs are a permutation of the
  -- changes
  pub permuted : (order sorted : List (ChangeKey × ℕ)) (out : List Change) → ((d : Change) → map (change_of d) order ≡ changes) → IsPermutation order sorted → ((d : Change) → out ≡ map (change_of d) sorted)
      → IsPermutation changes out
  permuted order sorted out listed moved copied =
      let d : Change = Remove 0 0 in
      subst (λ cs. IsPermutation cs out) (listed d) (subst (IsPermutation (map (change_of d) order)) (sym (copied d)) (IsPermutation-map (change_of d) order sorted moved))

  -- the key of a copied change is the key in the change's pair
  key_at : (sorted : List (ChangeKey × ℕ)) (out : List Change) → All (IsPlaceOfChange changes) sorted → ((d : Change) → out ≡ map (change_of d) sorted) → (k : ℕ) (d : Change) → k < length sorted
      → key_changed (get_or out k d) ≡ (get_or sorted k ((0, None), 0)).0
  key_at sorted out places copied k d h =
      ap (λ cs. key_changed (get_or cs k d)) (copied d) ∙ ap key_changed (get_or-map (change_of d) sorted k ((0, None), 0) d h) ∙ sym ((places k ((0, None), 0) h).key d)

-- pairs are compared by key first, and then by index
abbrev place_cmp : ChangeKey × ℕ → ChangeKey × ℕ → Ordering
place_cmp p q = ordering_then (change_key_cmp p.0 q.0) (nat_cmp p.1 q.1)

-- if `ordering_then o p` isn't `Less`, then `o` isn't `Less`
first_not_less : (o p : Ordering) → is_lt (ordering_then o p) ≡ false → is_lt o ≡ false
first_not_less o p above = search rules

-- an ordering that is neither `Equal` nor `Greater` is `Less`
only_less : (o p : Ordering) → o ≡ ordering_reverse p → is_lt p ≡ false → is_eq o ≡ false → o ≡ Less
only_less o p turned above apart = search rules

-- Suppose that changes with different keys are copied in the order of their sorted pairs. Then the
-- keys of the copied changes are in strictly increasing order.
pub in_order : (changes : List Change) (sorted : List (ChangeKey × ℕ)) (out : List Change) → All (IsPlaceOfChange changes) sorted → ((d : Change) → out ≡ map (change_of changes d) sorted)
    → IsSorted place_cmp sorted → AreOnceEach out → AreSortedChanges out
in_order changes sorted out places copied rising once k d h =
    let long : length out ≡ length sorted = ap length (copied d) ∙ length-map sorted (change_of changes d) in
    let low = key_at changes sorted out places copied k d (omega (arith, long, h)) in
    let high = key_at changes sorted out places copied (k + 1) d (omega (arith, long, h)) in
    let a : ChangeKey = key_changed (get_or out k d) in
    let b : ChangeKey = key_changed (get_or out (k + 1) d) in
    let upto : is_lt (change_key_cmp b a) ≡ false = ap (λ o. is_lt o) (λ t. change_key_cmp (high t) (low t)) ∙ first_not_less _ _ (rising k ((0, None), 0) (omega arith) (omega (arith, long, h))) in
    let many : length (map key_changed out) ≡ length out = length-map out key_changed in
    let apart : eq_by_cmp change_key_cmp a b ≡ false =
    (λ t. eq_by_cmp change_key_cmp (sym (get_or-map key_changed out k d a (omega (arith, h))) t) (sym (get_or-map key_changed out (k + 1) d a h) t))
    ∙ apart_from_distinct (eq_by_cmp change_key_cmp) (map key_changed out) k (k + 1) a once (omega arith) (omega (arith, many, h)) in
    only_less (change_key_cmp a b) (change_key_cmp b a) (change_keys_total.antisymm a b) upto apart
