-- How a search for a key in a list of links, called rows, is related to the database made from the
-- rows.
use Rattle.std.proofs.Common.{◌≡◌, ◌≢◌, ℕ, suc, ◌<◌, ◌↔◌, Bool, true, false, cond, Some, None, IsTrue, IsSome, IfSome, IfNone, is_some, not, List, [], ◌∷◌, All, length, map, slice_index_or, refl, sym, ap, subst, ◌∙◌, arith, zero, Option, rules}
use Rattle.std.specs.Ordering.{eq_by_cmp}
use Rattle.std.specs.List.{IsDistinct, HoldsAt}
use Rattle.std.specs.FinMap.{find}
use Rattle.cspf_model.specs.declared.link.Link.{Link}
use Rattle.cspf_model.specs.Database.{Database, Key, key_of, key_cmp, link_at, AreLinksOf, IsRouterOf, EndsAt}
use Rattle.cspf_model.specs.Lemmas.LinkRows.{entry_of, database_of}
use Rattle.cspf_model.proofs.Databases.Keys.{keys_apart_from, key_itself}
use Rattle.cspf_model.proofs.Databases.LinksOfRows.{link_at-database_of, find-row}

-- If the links in `rows` have different keys, the database made from them has each of these links
-- at the link's own key.
pub link_at-row : (rows : List Link) → IsDistinct (eq_by_cmp key_cmp) (map key_of rows)
    → (k : Key) (at : ℕ) (d : Link) → at < length rows → key_of (slice_index_or rows at d) ≡ k
    → link_at (database_of rows) k ≡ Some (slice_index_or rows at d)
link_at-row rows apart k at d h e = search (rules, entry_of, find, find-row, link_at-database_of)

-- If no link in `rows` has the key `k`, a search of `rows` for `k` finds nothing.
pub find-no_row : (rows : List Link) (k : Key) → All (λ l. key_of l ≢ k) rows
    → find key_cmp k (map entry_of rows) ≡ None
find-no_row [] k none = refl
find-no_row (l ∷ rows) k none =
    ap (λ b. cond b (Some l) (find key_cmp k (map entry_of rows)))
    (keys_apart_from k (key_of l) (λ e. none 0 l (omega arith) (sym e)))
    ∙ find-no_row rows k (λ at d h. none (suc at) d (omega arith))

-- If no link in `rows` has the key `k`, the database that is made from `rows` has no link at `k`.
pub link_at-no_row : (rows : List Link) (k : Key) → All (λ l. key_of l ≢ k) rows
    → link_at (database_of rows) k ≡ None
link_at-no_row rows k none = link_at-database_of rows k ∙ find-no_row rows k none

-- If `rows` has exactly the links of a database, the database has a router exactly if some link in
-- `rows` begins or ends at this router.
pub tells : (d : Database) (rows : List Link) (router : ℕ) (b : Bool) → AreLinksOf d rows
    → (b ≡ true → (at : ℕ) × (at < length rows) × HoldsAt (EndsAt router) rows at)
    → (b ≡ false → All (λ l. ¬ EndsAt router l) rows) → IsTrue b ↔ IsRouterOf d router
tells d [] router true listed hit miss = absurd (omega (arith, (hit refl).1))
tells d (m ∷ rows) router true listed hit miss =
    let h = hit refl in
    (λ _. (slice_index_or (m ∷ rows) h.0 m, listed.each h.0 m h.1, h.2 m), λ _. refl)
tells d rows router false listed hit miss =
    ((λ e. absurd (cc)), λ (l, is, ends). let at = listed.whole l is in absurd (miss refl at.0 l at.1 (subst (EndsAt router) (sym at.2) ends)))

-- If some link in `rows` has the key `k`, a search of `rows` for `k` finds a link.
some_there : (rows : List Link) (k : Key) (at : ℕ) → at < length rows
    → HoldsAt (λ l. key_of l ≡ k) rows at → IsSome (find key_cmp k (map entry_of rows))
some_there [] k at h has = absurd (omega arith)
some_there (l ∷ rows) k zero h has =
    subst (λ b. IsSome (cond b (Some l) (find key_cmp k (map entry_of rows))))
    (sym (ap (eq_by_cmp key_cmp k) (has l) ∙ key_itself k)) refl
some_there (l ∷ rows) k (suc at) h has =
    elim (eq_by_cmp key_cmp k (key_of l)) as (λ b. IsSome (cond b (Some l) (find key_cmp k (map entry_of rows)))) [ true ↦ refl | false ↦ some_there rows k at (omega arith) has ]

-- A search of `rows` for the key of a removal says whether the database has a link with this key.
-- The test `b` is true if the search finds nothing.
pub tells_removal : (rows : List Link) (k : Key) (place : Option ℕ) (b : Bool)
    → is_some place ≡ not b → IfSome place (λ at. at < length rows)
    → IfSome place (HoldsAt (λ l. key_of l ≡ k) rows) → IfNone place (All (λ l. key_of l ≢ k) rows)
    → (b ≡ true → link_at (database_of rows) k ≡ None) × (b ≡ false → IsSome (link_at (database_of rows) k))
tells_removal rows k None b e bound some none =
    ((λ _. link_at-no_row rows k none), λ off. absurd (cc))
tells_removal rows k (Some at) b e bound some none =
    ((λ on. absurd (cc)), λ _. subst IsSome (sym (link_at-database_of rows k)) (some_there rows k at bound some))

-- A `Put` change adds a link to the database exactly if a search of `rows` for the key of the link
-- finds nothing.
pub tells_addition : (rows : List Link) (k : Key) (place : Option ℕ) (b : Bool)
    → is_some place ≡ not b → IfSome place (λ at. at < length rows)
    → IfSome place (HoldsAt (λ l. key_of l ≡ k) rows) → IfNone place (All (λ l. key_of l ≢ k) rows)
    → b ≡ not (is_some (link_at (database_of rows) k))
tells_addition rows k place b e bound some none =
    let told = tells_removal rows k place b e bound some none in
    new_from (link_at (database_of rows) k) b told.0 told.1
  where
    new_from : (o : Option Link) (b : Bool) → (b ≡ true → o ≡ None) → (b ≡ false → IsSome o)
        → b ≡ not (is_some o)
    new_from o true gone there = sym (ap (λ p. not (is_some p)) (gone refl))
    new_from o false gone there = sym (ap not (there refl))
