-- The keys at which a database agrees with the effective database, and how a database is updated
-- until it agrees everywhere. The effective database is the base with the bandwidth that the
-- placements leave on its links.
use Rattle.std.proofs.Common.{◌≡◌, ℕ, ◌+◌, ◌<◌, ◌||◌, ◌&&◌, Bool, true, false, cond, Option, Some, None, List, [], ◌∷◌, ◌++◌, T, length, map, drop, nat_eq, nat_le, remove, get_or, refl, sym, ap, ◌∙◌, arith}
use Rattle.std.proofs.Math.Path.{fun_ext}
use Rattle.std.specs.Ordering.{eq_by_cmp, is_lt}
use Rattle.std.specs.Option.{option_map}
use Rattle.std.specs.FinMap as map
use Rattle.std.specs.FinMap.Entries.{below_all}
use Rattle.std.proofs.lemmas.List.{at_drop_more, length-map}
use Rattle.std.proofs.lemmas.List.Sums.{sum_by-remove, sum_by_push}
use Rattle.cspf_model.specs.declared.link.Link.{Link}
use Rattle.cspf_book.specs.declared.path.Passed.{Passed}
use Rattle.cspf_model.specs.Database.{Database, Key, key_of, key_cmp, link_at, AreAtTheirKeys}
use Rattle.cspf_model.specs.Changes.{no_links}
use Rattle.cspf_model.proofs.Databases.Keys.{keys_total, keys_antisymmetric}
use Rattle.cspf_model.proofs.Databases.OneChange.{same_database}
use Rattle.cspf_book.specs.declared.placement.Placement.{Placement}
use Rattle.cspf_book.specs.Placements.{ends_of_link, key_passed, has_key, bandwidth_on, counted}
use Rattle.cspf_book.specs.Effective.{figures, with_free, effective_link, effective}
use Rattle.cspf_book.specs.Alike.{AreAlike, IsCurrentAt, IsCurrentBut}
use Rattle.cspf_book.proofs.EffectiveLinks.{effective_at}
use Rattle.cspf_book.proofs.KeyTests.{same_key_test}

-- The test `below_all` (a key is below the keys of all entries) doesn't depend on the links of the
-- entries.
below_all-mapped : (f : Link → Link) (k : Key) (es : List (Key × Link))
    → below_all key_cmp k (map (λ e. (e.0, f e.1)) es) ≡ below_all key_cmp k es
below_all-mapped f k [] = refl
below_all-mapped f k (e ∷ es) = ap (λ b. is_lt (key_cmp k e.0) && b) (below_all-mapped f k es)

-- The test `is_sorted` (entries are sorted by their keys) doesn't depend on the links of the
-- entries.
is_sorted-mapped : (f : Link → Link) (es : List (Key × Link))
    → map.is_sorted key_cmp (map (λ e. (e.0, f e.1)) es) ≡ map.is_sorted key_cmp es
is_sorted-mapped f [] = refl
is_sorted-mapped f (e ∷ es) =
    λ i. below_all-mapped f e.0 es i && is_sorted-mapped f es i

-- A link with its effective bandwidths has the same key and the same neighbor as the link of the
-- base.
ends_kept : (placements : List Placement) (o : Option Link)
    → option_map ends_of_link (option_map (effective_link placements) o) ≡ option_map ends_of_link o
unfolding effective_link
ends_kept placements (Some l) = refl
ends_kept placements None = refl

-- The number of entries stays the same if their links are replaced.
len-mapped : (base : Database) (es : List (Key × Link)) → T (map.is_sorted key_cmp es)
    → length es ≡ length (map.entries base.links) → map.len (map.from_entries {R = key_cmp} es) ≡ map.len base.links
len-mapped base es sorted many =
    ap map.len (map.same_map keys_total keys_antisymmetric (map.from_entries es) (map.from_sorted es) (λ q.
    map.get-from_entries keys_total es q ∙ sym (map.get-from_sorted key_cmp es q sorted)))
    ∙ map.len-entries (map.from_sorted {R = key_cmp} es)
    ∙ ap length (map.entries-from_sorted key_cmp es sorted)
    ∙ many
    ∙ sym (map.len-entries base.links)

-- The base and its effective database differ only in attributes of their links (`AreAlike`).
pub alike_effective : (base : Database) (placements : List Placement) → AreAlike base (effective base placements)
alike_effective base placements = record {
  marks = refl;
  count =
      len-mapped base (map (λ e. (e.0, effective_link placements e.1)) (map.entries base.links))
      (coe 1 0 (i. T (is_sorted-mapped (effective_link placements) (map.entries base.links) i)) (map.entries_sorted base.links))
      (length-map (map.entries base.links) (λ e. (e.0, effective_link placements e.1)));
  ends = λ k. ap (option_map ends_of_link) (effective_at base placements k) ∙ ends_kept placements (link_at base k);
}

-- Let a database differ from the base only in attributes of its links. If it agrees with the
-- effective database at each key, it is the effective database.
pub current_whole : (base : Database) (placements : List Placement) (d : Database) → AreAlike base d
    → ((k : Key) → IsCurrentAt base placements d k) → d ≡ effective base placements
current_whole base placements d alike current =
    same_database d (effective base placements) alike.marks (λ k. current k ∙ sym (effective_at base placements k))

-- If two lists of placements count the same bandwidth on a link, they leave the same effective
-- bandwidths on it.
same_held : (before after : List Placement) (k : Key) (l : Link) → key_of l ≡ k
    → ((p : ℕ) → counted before k p ≡ counted after k p) → effective_link before l ≡ effective_link after l
unfolding effective_link
same_held before after k l key same =
    ap (λ held. with_free l (figures l.free held) refl)
    (fun_ext (λ p. ap (λ q. counted before q p) key ∙ same p ∙ ap (λ q. counted after q p) (sym key)))

-- Let two lists of placements count the same bandwidth at a key. If a database agrees at this key
-- with the effective database of the first list, it also agrees with the effective database of the
-- second list.
pub current_along : (base : Database) (before after : List Placement) (d : Database) (k : Key) → AreAtTheirKeys base
    → ((p : ℕ) → counted before k p ≡ counted after k p) → IsCurrentAt base before d k → IsCurrentAt base after d k
current_along base before after d k keyed same current = current ∙ mapped (link_at base k) refl
  where
    mapped : (o : Option Link) → link_at base k ≡ o → option_map (effective_link before) o ≡ option_map (effective_link after) o
    mapped (Some l) is = ap Some (same_held before after k l (keyed k l is) same)
    mapped None is = refl

-- If the second of two tests fails, a choice of n for "both tests hold", and of 0 otherwise, gives
-- 0.
counted-neither : (b : Bool) (n : ℕ) → cond (b && false) n 0 ≡ 0
counted-neither true n = refl
counted-neither false n = refl

-- A placement counts no bandwidth on a link that its route doesn't use.
bandwidth_on-none : (k : Key) (priority : ℕ) (p : Placement) → has_key p.route k ≡ false → bandwidth_on k priority p ≡ 0
bandwidth_on-none k priority p off =
    ap (λ b. cond (nat_le p.hold priority && b) p.request.bandwidth 0) off
    ∙ counted-neither (nat_le p.hold priority) p.request.bandwidth

-- Removing a placement doesn't change the bandwidth that is counted on links that its route doesn't
-- use.
pub counted-remove : (placements : List Placement) (at : ℕ) (d : Placement) (k : Key) → at < length placements
    → has_key (get_or placements at d).route k ≡ false → (priority : ℕ)
    → counted placements k priority ≡ counted (remove placements at) k priority
counted-remove placements at d k within off priority =
    omega
    (arith, sum_by-remove (bandwidth_on k priority) placements at d within, bandwidth_on-none k priority (get_or placements at d) off)

-- Adding a placement doesn't change the bandwidth that is counted on links that its route doesn't
-- use.
pub counted-push : (placements : List Placement) (p : Placement) (k : Key) → has_key p.route k ≡ false → (priority : ℕ)
    → counted placements k priority ≡ counted (placements ++ p ∷ []) k priority
counted-push placements p k off priority =
    omega (arith, sum_by_push (bandwidth_on k priority) placements p, bandwidth_on-none k priority p off)

-- If two tests fail, their disjunction fails.
pub neither_holds : (a b : Bool) → a ≡ false → b ≡ false → (a || b) ≡ false
neither_holds true b first second = first
neither_holds false b first second = second

-- In this module, `new` agrees with the effective database at the key `key`. At all other keys,
-- `new` has the links of `old`.
module _ (base : Database) (placements : List Placement) (old new : Database) (key : Key)
    (at : (k : Key) → link_at new k ≡ cond (eq_by_cmp key_cmp k key) (option_map (effective_link placements) (link_at base k)) (link_at old k)) where
  pub current_there : (k : Key) → ((nat_eq key.0 k.0 && nat_eq key.1 k.1) ≡ false → IsCurrentAt base placements old k) → IsCurrentAt base placements new k
  current_there k elsewhere =
      at k
      ∙ (elim (eq_by_cmp key_cmp k key) as (λ t. eq_by_cmp key_cmp k key ≡ t → cond t (option_map (effective_link placements) (link_at base k)) (link_at old k) ≡ option_map (effective_link placements) (link_at base k)) [
        | true ↦ λ _. refl
        | false ↦ λ off. elsewhere (sym (same_key_test k key) ∙ off)
      ] refl)

  -- Let `key` be the key of the link at index i. Let `old` agree with the effective database,
  -- except at the keys of the links from index i on. Then `new` agrees with the effective database,
  -- except at the keys of the links from index i + 1 on.
  pub current_step : (links : List Passed) (i : ℕ) (d : Passed) → i < length links → key_passed (get_or links i d) ≡ key → IsCurrentBut base placements old (drop i links)
      → IsCurrentBut base placements new (drop (i + 1) links)
  current_step links i d within is current k off =
      current_there k (λ apart. current k (at_drop_more (λ ls. has_key ls k) links i d within ∙ neither_holds _ _ (ap (λ (j : Key). nat_eq j.0 k.0 && nat_eq j.1 k.1) is ∙ apart) off))

-- At each key, the effective database has the base's link with its effective bandwidths
-- (`IsCurrentAt`).
pub current_at_all : (base : Database) (placements : List Placement) (d : Database) → d ≡ effective base placements
    → (k : Key) → IsCurrentAt base placements d k
current_at_all base placements d is k = ap (λ (e : Database). link_at e k) is ∙ effective_at base placements k

-- A database that is the effective database differs from the base only in attributes of its links
-- (`AreAlike`).
pub alike_current : (base : Database) (placements : List Placement) (d : Database) → d ≡ effective base placements
    → AreAlike base d
alike_current base placements d is = rw is (alike_effective base placements)

-- Let `d` be the effective database of all placements, and remove the placement at an index from
-- their list. Then `d` agrees with the new effective database at each key that isn't on the route
-- of this placement.
pub current_aside : (base : Database) (placements : List Placement) (at : ℕ) (p : Placement) (d : Database) → AreAtTheirKeys base
    → at < length placements → d ≡ effective base placements
    → IsCurrentBut base (remove placements at) d (get_or placements at p).route
current_aside base placements at p d keyed within is k off =
    current_along base placements (remove placements at) d k keyed (counted-remove placements at p k within off) (current_at_all base placements d is k)

-- Let `d` be the effective database without the placement at an index, and add this placement
-- again. Then `d` agrees with the new effective database at each key that isn't on the route of
-- this placement.
pub current_back : (base : Database) (placements : List Placement) (at : ℕ) (p : Placement) (d : Database) → AreAtTheirKeys base
    → at < length placements → d ≡ effective base (remove placements at)
    → IsCurrentBut base placements d (get_or placements at p).route
current_back base placements at p d keyed within is k off =
    current_along base (remove placements at) placements d k keyed (λ q. sym (counted-remove placements at p k within off q)) (current_at_all base (remove placements at) d is k)

-- Let `d` be the effective database of some placements, and add a placement to their list. Then `d`
-- agrees with the new effective database at each key that isn't on the route of this placement.
pub current_with : (base : Database) (placements : List Placement) (p : Placement) (d : Database) → AreAtTheirKeys base
    → d ≡ effective base placements → IsCurrentBut base (placements ++ p ∷ []) d p.route
current_with base placements p d keyed is k off =
    current_along base placements (placements ++ p ∷ []) d k keyed (counted-push placements p k off) (current_at_all base placements d is k)

-- The effective database of a database without links has no links.
pub effective-no_links : (placements : List Placement) → no_links ≡ effective no_links placements
effective-no_links placements =
    same_database no_links (effective no_links placements) refl (λ k.
    map.get-empty key_cmp k
    ∙ sym (effective_at no_links placements k ∙ ap (option_map (effective_link placements)) (map.get-empty key_cmp k)))
