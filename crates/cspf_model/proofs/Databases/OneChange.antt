-- How one change acts on a database that is made from a list of links, called rows.
use Rattle.std.proofs.Common.{◌≡◌, ℕ, ◌<◌, Bool, true, false, cond, Option, Some, None, List, [], ◌∷◌, length, map, get_or, refl, sym, ap, ◌∙◌, rules}
use Rattle.std.specs.Ordering.{eq_by_cmp}
use Rattle.std.specs.List.{IsDistinct, AllByRecursion, Contains, remove as without}
use Rattle.std.specs.List.Sorted.{IsPermutation}
use Rattle.std.specs.FinSet as set
use Rattle.std.specs.FinMap.{find, get, insert, remove, get-insert, get-remove, same_map}
use Rattle.std.proofs.lemmas.Cmp.{eq_by_cmp_equiv}
use Rattle.std.proofs.lemmas.Map.Keys.{IsDistinct-IsPermutation}
use Rattle.std.proofs.lemmas.List.Sorted.{IsPermutation-sym, IsPermutation-map, IsPermutation-remove, Contains-permutation}
use Rattle.cspf_model.specs.declared.link.Link.{Link}
use Rattle.cspf_model.specs.declared.batch.Change.TheVariants.{Remove}
use Rattle.cspf_model.specs.Database.{Database, Key, key_of, key_cmp, link_at, HaveOwnKeys}
use Rattle.cspf_model.specs.Lemmas.LinkChanges.{relinked}
use Rattle.cspf_model.specs.Lemmas.LinkRows.{entry_of, database_of}
use Rattle.cspf_model.proofs.Databases.Keys.{keys_total, keys_antisymmetric, keys_same}
use Rattle.cspf_model.proofs.Databases.LinksOfRows.{link_at-database_of, find-row, row-find}

-- Two databases are equal if they have the same link at each key and mark the same routers as
-- without transit.
pub same_database : (d e : Database) → d.marks ≡ e.marks → ((k : Key) → link_at d k ≡ link_at e k) → d ≡ e
same_database d e marks same =
    let links : d.links ≡ e.links = same_map keys_total keys_antisymmetric d.links e.links same in
    λ i. record { links = links i; marks = marks i }

-- Options with the same content are equal.
pub same_options : {A : Type 0} (o p : Option A) → ((x : A) → o ≡ Some x → p ≡ Some x) → ((x : A) → p ≡ Some x → o ≡ Some x) → o ≡ p
same_options o p there back = search rules

-- If a search of `rows` for the key `k` finds a link, the link's key is `k`.
pub find-key : (rows : List Link) (k : Key) (l : Link) → find key_cmp k (map entry_of rows) ≡ Some l → key_of l ≡ k
find-key [] k l e = absurd (cc)
find-key (m ∷ rows) k l e =
    elim (eq_by_cmp key_cmp k (key_of m)) as (λ b. eq_by_cmp key_cmp k (key_of m) ≡ b → cond b (Some m) (find key_cmp k (map entry_of rows)) ≡ Some l → key_of l ≡ k) [
      | true ↦ λ tie here. let same : m ≡ l = cc in sym (ap key_of same) ∙ sym (keys_same k (key_of m) tie)
      | false ↦ λ _ there. find-key rows k l there
    ] refl e

-- Suppose that `others` contains each link of `rows`, and that the links in `others` have different
-- keys. If a search of `rows` for a key finds a link, a search of `others` finds the same link.
pub found_too : (rows others : List Link) (k : Key) → HaveOwnKeys others → ((l : Link) → Contains rows l → Contains others l)
    → (l : Link) → find key_cmp k (map entry_of rows) ≡ Some l → find key_cmp k (map entry_of others) ≡ Some l
found_too rows others k apart in_others l e =
    let at = in_others l (row-find rows k l e) in
    ap (λ q. find key_cmp q (map entry_of others)) (sym (find-key rows k l e) ∙ ap key_of (sym at.2)) ∙ find-row others apart at.0 l at.1 ∙ ap Some at.2

-- If the links in `rows` have different keys, `others`, which has the same links in another order,
-- makes the same database.
pub database-permuted : (rows others : List Link) → IsPermutation rows others → HaveOwnKeys rows → HaveOwnKeys others → database_of rows ≡ database_of others
database-permuted rows others moved apart also =
    same_database _ _ refl (λ k. link_at-database_of rows k
    ∙ same_options _ _ (found_too rows others k also (λ l. Contains-permutation rows others l moved)) (found_too others rows k apart (λ l. Contains-permutation others rows l (IsPermutation-sym rows others moved)))
    ∙ sym (link_at-database_of others k))

-- If the links in `rows` have different keys, the keys are still different after the links are
-- reordered.
pub apart-permuted : (rows others : List Link) → IsPermutation rows others → HaveOwnKeys rows → HaveOwnKeys others
apart-permuted rows others moved apart =
    IsDistinct-IsPermutation (eq_by_cmp key_cmp) (eq_by_cmp_equiv keys_total).symm (map key_of rows) (map key_of others) (IsPermutation-map key_of rows others moved) apart

-- If no link in `rows` has the key `k`, a search of `rows` for `k` finds nothing.
find-apart : (rows : List Link) (k : Key) → AllByRecursion (λ y. eq_by_cmp key_cmp k y ≡ false) (map key_of rows) → find key_cmp k (map entry_of rows) ≡ None
find-apart [] k apart = refl
find-apart (l ∷ rows) k apart = ap (λ b. cond b (Some l) (find key_cmp k (map entry_of rows))) apart.0 ∙ find-apart rows k apart.1

-- If the links in `l ∷ rows` have different keys, a search of `rows` for the key of `l` finds
-- nothing.
pub find-behind : (l : Link) (rows : List Link) → HaveOwnKeys (l ∷ rows) → find key_cmp (key_of l) (map entry_of rows) ≡ None
unfolding IsDistinct
find-behind l rows apart = find-apart rows (key_of l) apart.0

-- If the database has no link at a key, it still has none after a link is put at this key and
-- removed again.
gone : (b c : Bool) (x y : Option Link) → (b ≡ true → y ≡ None) → b ≡ c → y ≡ cond b None (cond c x y)
gone b c x y none e = search rules

-- If the database has no link at a key, putting a link at this key and removing it again doesn't
-- change the links of the database.
remove-insert : (d : Database) (x : Link) (k : Key) → key_of x ≡ k → get d.links k ≡ None → d.links ≡ remove (insert d.links (key_of x) x) k
remove-insert d x k e none =
    same_map keys_total keys_antisymmetric _ _ (λ q. gone (eq_by_cmp key_cmp q k) (eq_by_cmp key_cmp q (key_of x)) (Some x) (get d.links q) (λ tie. ap (get d.links) (keys_same q k tie) ∙ none) (ap (eq_by_cmp key_cmp q) (sym e))
    ∙ sym (get-remove keys_total (insert d.links (key_of x) x) k q ∙ ap (cond (eq_by_cmp key_cmp q k) None) (get-insert keys_total d.links (key_of x) x q)))

-- In this part, `x` is the link at index `at` of `rows`, and its key is `k`. `without rows at` is
-- the list without this link.
module _ (rows : List Link) (at : ℕ) (x : Link) (k : Key) (apart : HaveOwnKeys rows) (within : at < length rows) (read : x ≡ get_or rows at x) (has_key : key_of x ≡ k) where
  -- The removed link `x`, followed by the links in `without rows at`, is a permutation of `rows`.
  moved : IsPermutation rows (x ∷ without rows at)
  moved = IsPermutation-remove rows at x within read

  -- The removed link `x` and the links in `without rows at` all have different keys.
  still_apart : HaveOwnKeys (x ∷ without rows at)
  still_apart = apart-permuted rows (x ∷ without rows at) moved apart

  -- The links in `without rows at` have different keys.
  pub apart-without : HaveOwnKeys (without rows at)
  unfolding IsDistinct
  apart-without = still_apart.1

  -- The database made from `without rows at` is the database of `rows` after a removal with the key
  -- `k`.
  pub database-without : database_of (without rows at) ≡ relinked (database_of rows) (Remove k.0 k.1)
  database-without =
      ap (λ m. record { links = m; marks = set.empty }) (remove-insert (database_of (without rows at)) x k has_key
      (ap (link_at (database_of (without rows at))) (sym has_key) ∙ link_at-database_of (without rows at) (key_of x) ∙ find-behind x (without rows at) still_apart))
      ∙ ap (λ d. relinked d (Remove k.0 k.1)) (sym (database-permuted rows (x ∷ without rows at) moved apart still_apart))

-- If the database has no link at the key of a removal, the removal doesn't change which link is at
-- any key.
missing : (b : Bool) (y : Option Link) → (b ≡ true → y ≡ None) → y ≡ cond b None y
missing b y none = search rules

-- If the database has no link at a key, a removal with this key doesn't change the database.
pub relinked-absent : (d : Database) (from local : ℕ) → link_at d (from, local) ≡ None → d ≡ relinked d (Remove from local)
relinked-absent d from local none =
    same_database d _ refl (λ q. missing (eq_by_cmp key_cmp q (from, local)) (link_at d q) (λ tie. ap (link_at d) (keys_same q (from, local) tie) ∙ none) ∙ sym (get-remove keys_total d.links (from, local) q))
