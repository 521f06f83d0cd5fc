-- The set whose members `router_count` counts has exactly the routers of the database.
use Rattle.std.proofs.Common.{◌≡◌, ℕ, ◌||◌, ◌&&◌, Bool, true, false, cond, T, Option, Some, None, List, [], ◌∷◌, map, refl, sym, ap, ◌∙◌, rules}
use Rattle.std.specs.Ordering.{nat_cmp, eq_by_cmp, is_lt, is_eq}
use Rattle.std.specs.declared.cmp.Ordering.{Ordering}
use Rattle.std.specs.Cmp.{nat_cmp_total, Equal-is}
use Rattle.std.specs.List.{list_any}
use Rattle.std.specs.FinMap as map
use Rattle.std.specs.FinMap.Entries.{below_all}
use Rattle.std.specs.FinSet as set
use Rattle.cspf_model.specs.declared.link.Link.{Link}
use Rattle.cspf_model.specs.Database.{Key, key_cmp, link_at, EndsAt, ends_of}
use Rattle.cspf_model.specs.Laws.{RoutersAreCounted}
use Rattle.cspf_model.proofs.Databases.Keys.{keys_total, key_itself}
use Rattle.cspf_model.proofs.Databases.DistinctRouters.{router_in_ends}
use Rattle.cspf_model.proofs.Databases.EndCounts.{any-ends_of}

-- Some entry has a link that passes the test `p`. A search of the entries for `key` finds this
-- link.
record Found (p : Link → Bool) (es : List (Key × Link)) : Type 0 where
  pub key : Key
  pub link : Link
  pub passes : p link ≡ true
  pub found : map.find key_cmp key es ≡ Some link

-- If the conjunction of two tests is true, the first test is true.
both_first : (a b : Bool) → T (a && b) → T a
both_first a b h = search rules

-- If the conjunction of two tests is true, the second test is true.
both_second : (a b : Bool) → T (a && b) → T b
both_second a b h = search rules

-- If a key is below another key, the two keys don't compare as equal.
below_apart : (k j : Key) (o : Ordering) → key_cmp k j ≡ o → T (is_lt o)
    → eq_by_cmp key_cmp j k ≡ false
below_apart k j o is h = search rules

-- If the key `k` is below the keys of all entries, a key that is found among these entries doesn't
-- compare as equal to `k`.
not_first : (k : Key) (es : List (Key × Link)) → T (below_all key_cmp k es) → (j : Key) (l : Link)
    → map.find key_cmp j es ≡ Some l → eq_by_cmp key_cmp j k ≡ false
not_first k [] below j l found = absurd (none_some found)
  where
    none_some : ◌≡◌ {A = Option Link} None (Some l) → ⊥
    none_some e = cc
not_first k (e ∷ es) below j l found =
    elim (eq_by_cmp key_cmp j e.0) as (λ t. eq_by_cmp key_cmp j e.0 ≡ t → cond t (Some e.1) (map.find key_cmp j es) ≡ Some l → eq_by_cmp key_cmp j k ≡ false) [
      | true ↦ λ tie _. ap is_eq (keys_total.congr j e.0 k ((Equal-is (key_cmp j e.0)).0 tie))
          ∙ below_apart k e.0 (key_cmp k e.0) refl (both_first _ _ below)
      | false ↦ λ _ there. not_first k es (both_second _ _ below) j l there
    ] refl found

-- If the link of some entry of a sorted list passes a test, a search of the list for this entry's
-- key finds this link.
found_among : (p : Link → Bool) (es : List (Key × Link)) → T (map.is_sorted key_cmp es)
    → list_any p (map (λ e. e.1) es) ≡ true → Found p es
found_among p [] sorted any = absurd (cc)
found_among p (e ∷ es) sorted any =
    elim (p e.1) as (λ b. p e.1 ≡ b → (b || list_any p (map (λ e. e.1) es)) ≡ true → Found p (e ∷ es)) [
      | true ↦ λ passes _. record { key = e.0; link = e.1; passes = passes; found = ap (λ b. cond b (Some e.1) (map.find key_cmp e.0 es)) (key_itself e.0) }
      | false ↦ λ _ later. let f = found_among p es (both_second _ _ sorted) later in
          record { key = f.key; link = f.link; passes = f.passes; found = ap (λ b. cond b (Some e.1) (map.find key_cmp f.key es)) (not_first e.0 es (both_first _ _ sorted) f.key f.link f.found) ∙ f.found }
    ] refl any

-- If a router compares as equal to one of the two routers of a link, the link begins or ends at
-- this router.
pub end_at : (router : ℕ) (l : Link)
    → (eq_by_cmp nat_cmp router l.from || eq_by_cmp nat_cmp router l.to) ≡ true → EndsAt router l
end_at router l h1 = search rules

-- The set that `router_count` counts has exactly the routers of the database.
pub routers_counted : RoutersAreCounted
routers_counted d keyed router = (
  λ counted.
      let f = found_among (λ l. eq_by_cmp nat_cmp router l.from || eq_by_cmp nat_cmp router l.to) (map.entries d.links) (map.entries_sorted d.links)
      (sym (any-ends_of (eq_by_cmp nat_cmp router) (map.values d.links)) ∙ sym (set.contains-from_list nat_cmp_total (ends_of (map.values d.links)) router) ∙ counted) in
      let there : link_at d f.key ≡ Some f.link = map.get-entries d.links f.key ∙ f.found in
      (f.link, ap (link_at d) (keyed f.key f.link there) ∙ there, end_at router f.link f.passes),
  λ is. router_in_ends d router is,
)
