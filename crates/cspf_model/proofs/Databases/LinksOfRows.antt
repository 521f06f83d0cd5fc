-- The links of a database that is made from a list of links (called rows) with different keys.
use Rattle.std.proofs.Common.{◌≡◌, ℕ, zero, suc, ◌+◌, ◌<◌, true, false, cond, Some, List, [], ◌∷◌, length, map, slice_index_or, refl, sym, ap, ◌∙◌, add-one, arith, rules}
use Rattle.std.specs.Ordering.{eq_by_cmp}
use Rattle.std.specs.List.{IsDistinct, AllByRecursion, Contains}
use Rattle.std.specs.FinMap.{find, get-from_entries}
use Rattle.cspf_model.specs.declared.link.Link.{Link}
use Rattle.cspf_model.specs.Database.{Key, key_of, key_cmp, AreLinksOf, AreAtTheirKeys, link_at}
use Rattle.cspf_model.specs.Lemmas.LinkRows.{entry_of, database_of}
use Rattle.cspf_model.proofs.Databases.Keys.{keys_total, key_itself, keys_apart, keys_same}

-- At each key, the database made from `rows` has the link that a search of `rows` for this key
-- finds.
pub link_at-database_of : (rows : List Link) (k : Key)
    → link_at (database_of rows) k ≡ find key_cmp k (map entry_of rows)
link_at-database_of rows k = get-from_entries keys_total (map entry_of rows) k

-- If `P` holds of the keys of all links in `rows`, then for each index `P` holds of the key of the
-- link at this index.
at_map : (P : Key → Type 0) (rows : List Link) → AllByRecursion P (map key_of rows)
    → (k : ℕ) (d : Link) → k < length rows → P (key_of (slice_index_or rows k d))
at_map P [] all k d h = absurd (omega arith)
at_map P (l ∷ rows) all zero d h = all.0
at_map P (l ∷ rows) all (suc k) d h = at_map P rows all.1 k d (omega arith)

-- If the links in `rows` have different keys, a search of `rows` for the key of one of them finds
-- this link.
pub find-row : (rows : List Link) → IsDistinct (eq_by_cmp key_cmp) (map key_of rows)
    → (k : ℕ) (d : Link) → k < length rows
    → find key_cmp (key_of (slice_index_or rows k d)) (map entry_of rows) ≡ Some (slice_index_or rows k d)
unfolding IsDistinct
find-row [] apart k d h = absurd (omega arith)
find-row (l ∷ rows) apart zero d h =
    ap (λ b. cond b (Some l) (find key_cmp (key_of l) (map entry_of rows))) (key_itself (key_of l))
find-row (l ∷ rows) apart (suc k) d h =
    ap (λ b. cond b (Some l) (find key_cmp (key_of (slice_index_or rows k d)) (map entry_of rows)))
    (keys_apart (key_of l) (key_of (slice_index_or rows k d)) (at_map (λ y. eq_by_cmp key_cmp (key_of l) y ≡ false) rows apart.0 k d (omega arith)))
    ∙ find-row rows apart.1 k d (omega arith)

-- If a search of `rows` for a key finds a link, `rows` contains this link.
pub row-find : (rows : List Link) (q : Key) (l : Link) → find key_cmp q (map entry_of rows) ≡ Some l
    → Contains rows l
row-find [] q l e = cc
row-find (m ∷ rows) q l e =
    elim (eq_by_cmp key_cmp q (key_of m)) as (λ b. cond b (Some m) (find key_cmp q (map entry_of rows)) ≡ Some l → Contains (m ∷ rows) l) [
      | true ↦ λ here. let same : m ≡ l = cc in (0, omega arith, same)
      | false ↦ λ there. let r = row-find rows q l there in (r.0 + 1, omega arith, rw add-one r.2)
    ] e

-- If the links in `rows` have different keys, they are exactly the links of the database made from
-- `rows`.
pub rows_listed : (rows : List Link) → IsDistinct (eq_by_cmp key_cmp) (map key_of rows)
    → AreLinksOf (database_of rows) rows
rows_listed rows apart = search (rules, find-row, link_at-database_of, row-find)

-- If a search of `rows` for the key `k` finds a link, the link's key is `k`.
key_of-find : (rows : List Link) (k : Key) (l : Link) → find key_cmp k (map entry_of rows) ≡ Some l
    → key_of l ≡ k
key_of-find [] k l e = cc
key_of-find (m ∷ rows) k l e =
    elim (eq_by_cmp key_cmp k (key_of m)) as (λ b. eq_by_cmp key_cmp k (key_of m) ≡ b → cond b (Some m) (find key_cmp k (map entry_of rows)) ≡ Some l → key_of l ≡ k) [
      | true ↦ λ tie here. let same : m ≡ l =
          cc in sym (ap key_of same) ∙ sym (keys_same k (key_of m) tie)
      | false ↦ λ _ there. key_of-find rows k l there
    ] refl e

-- In the database made from `rows`, each link is stored at the link's own key.
pub rows_keyed : (rows : List Link) → AreAtTheirKeys (database_of rows)
rows_keyed rows k l is = key_of-find rows k l (sym (link_at-database_of rows k) ∙ is)
