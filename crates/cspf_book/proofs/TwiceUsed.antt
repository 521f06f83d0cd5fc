-- How a route is tested for a link that it uses twice.
use Rattle.std.proofs.Common.{◌≡◌, ◌↔◌, ℕ, ◌+◌, ◌<◌, true, false, List, [], ◌∷◌, length, map, drop, slice_index_or, refl, sym, ap, ◌∙◌}
use Rattle.std.specs.Ordering.{eq_by_cmp}
use Rattle.std.specs.List.{AllByRecursion, IsDistinct}
use Rattle.std.proofs.lemmas.Bool.{or_parts, or_from, false≢true}
use Rattle.std.proofs.lemmas.List.{at_drop_more}
use Rattle.std.proofs.lemmas.Map.Keys.{IsDistinct-head, IsDistinct-tail, IsDistinct-cons}
use Rattle.cspf_model.specs.declared.link.Link.{Link}
use Rattle.cspf_book.specs.declared.path.Passed.{Passed}
use Rattle.cspf_model.specs.Database.{Key, key_of, key_cmp, HaveOwnKeys}
use Rattle.cspf_book.specs.Placements.{passed_of, key_passed, ArePassedOnce, has_key}
use Rattle.cspf_book.proofs.KeyTests.{same_key_test}

-- If no link has the key, the key differs from the key of each link.
clear : (k : Key) (links : List Passed) → has_key links k ≡ false → AllByRecursion (λ y. eq_by_cmp key_cmp k y ≡ false) (map key_passed links)
clear k [] e = tt
clear k (l ∷ ls) e = let parts = or_parts _ _ e in (same_key_test k (key_passed l) ∙ parts.0, clear k ls parts.1)

none_has : (k : Key) (links : List Passed) → AllByRecursion (λ y. eq_by_cmp key_cmp k y ≡ false) (map key_passed links) → has_key links k ≡ false
none_has k [] all = refl
none_has k (l ∷ ls) all = or_from _ _ (sym (same_key_test k (key_passed l)) ∙ all.0) (none_has k ls all.1)

-- In this module, `l` is the link at index i. One lemma is for a key of `l` that no later link has,
-- and the other for a key that a later link has.
module _ (links : List Passed) (i : ℕ) (within : i < length links) (l : Passed) (is : l ≡ slice_index_or links i l)
    (whole : ArePassedOnce (drop i links) ↔ ArePassedOnce links) where
  behind : ArePassedOnce (drop i links) ≡ ArePassedOnce (l ∷ drop (i + 1) links)
  behind = ap ArePassedOnce (at_drop_more (λ ls. ls) links i l within ∙ ap (λ (x : Passed). x ∷ drop (i + 1) links) (sym is))

  pub passed : has_key (drop (i + 1) links) (key_passed l) ≡ false → ArePassedOnce (drop (i + 1) links) ↔ ArePassedOnce links
  passed e = (
    λ rest. whole.0 (coe 1 0 (k. behind k) (IsDistinct-cons (eq_by_cmp key_cmp) (key_passed l) (map key_passed (drop (i + 1) links)) (clear (key_passed l) (drop (i + 1) links) e) rest)),
    λ all. IsDistinct-tail (eq_by_cmp key_cmp) (key_passed l) (map key_passed (drop (i + 1) links)) (coe 0 1 (k. behind k) (whole.1 all)),
  )

  pub shared : has_key (drop (i + 1) links) (key_passed l) ≡ true → ArePassedOnce links → ⊥
  shared e all =
      let head = IsDistinct-head (eq_by_cmp key_cmp) (key_passed l) (map key_passed (drop (i + 1) links)) (coe 0 1 (k. behind k) (whole.1 all)) in
      false≢true (sym (none_has (key_passed l) (drop (i + 1) links) head) ∙ e)

-- The keys of the links on a walk's path are the keys of the walk's links.
pub keys_of-path : (walk : List Link) → map key_passed (map passed_of walk) ≡ map key_of walk
keys_of-path [] = refl
keys_of-path (l ∷ ls) = ap (λ ks. key_of l ∷ ks) (keys_of-path ls)

-- A walk uses no link twice exactly if its path has no key twice.
pub once-path : (walk : List Link) → ArePassedOnce (map passed_of walk) ≡ HaveOwnKeys walk
once-path walk = ap (IsDistinct (eq_by_cmp key_cmp)) (keys_of-path walk)
