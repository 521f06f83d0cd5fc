-- The links from a router are sorted by their local addresses.
use Rattle.std.proofs.Common.{◌≡◌, ℕ, ◌<◌, true, false, cond, T, Option, Some, None, List, [], ◌∷◌, map, nat_eq, slice_get, slice_index, slice_index_or, refl, sym, ap, subst, ◌∙◌, arith}
use Rattle.std.specs.Ordering.{nat_cmp, ordering_then, eq_by_cmp, is_eq}
use Rattle.std.specs.declared.cmp.Ordering.TheVariants.{Less}
use Rattle.std.specs.FinMap.{entries, entries_sorted, find, get-entries, is_sorted}
use Rattle.std.specs.FinMap.Entries.{below_all}
use Rattle.std.proofs.lemmas.Bool.Decides.{nat_tests}
use Rattle.std.proofs.lemmas.Option.{get_or_from_slice_get, slice_get_within}
use Rattle.cspf_model.specs.declared.link.Link.{Link}
use Rattle.cspf_model.specs.Database.{Database, Key, key_of, key_cmp, AreAtTheirKeys}
use Rattle.cspf_model.specs.Lemmas.LinkRows.{entry_of, AreByKey}
use Rattle.cspf_model.proofs.Databases.Keys.{key_itself, keys_same, keys_total}
use Rattle.cspf_db.specs.Index.{links_of, links_from_index, router_list}
use Rattle.cspf_columns.proofs.SortedEntries.{both_first, both_second, less_from, rises, test_from_true}
use Rattle.cspf_columns.proofs.RowOrder.{by_key-entries, by_key-filter}
use Rattle.cspf_graph.proofs.LinkRows.{runs_from}

-- A key that is less than all keys of a list isn't found in the list.
missing : (k : Key) (es : List (Key × Link)) → T (below_all key_cmp k es) → find key_cmp k es ≡ None
missing k [] h = refl
missing k (e ∷ es) h =
    ap (λ r. cond (is_eq r) (Some e.1) (find key_cmp k es)) (less_from _ (both_first _ _ h)) ∙ missing k es (both_second _ _ h)

-- A key that is found among the later entries of a sorted list is also found in the whole list,
-- because the key of the first entry is less.
found_behind : (k : Key) (l : Link) (e : Key × Link) (es : List (Key × Link)) → T (below_all key_cmp e.0 es) → find key_cmp k es ≡ Some l → find key_cmp k (e ∷ es) ≡ Some l
found_behind k l e es below found =
    elim (eq_by_cmp key_cmp k e.0) as (λ b. eq_by_cmp key_cmp k e.0 ≡ b → cond b (Some e.1) (find key_cmp k es) ≡ Some l) [
      | true ↦ λ tie.
          let none : find key_cmp k es ≡ None = ap (λ q. find key_cmp q es) (keys_same k e.0 tie) ∙ missing e.0 es below in
          absurd (let off : ◌≡◌ {A = Option Link} None (Some l) = sym none ∙ found in cc)
      | false ↦ λ _. found
    ] refl

-- A sorted list of keys and links is made from its links alone, if the key of each entry is the key
-- of its link.
entries_keyed : (es : List (Key × Link)) → T (is_sorted key_cmp es) → ((k : Key) (l : Link) → find key_cmp k es ≡ Some l → key_of l ≡ k) → es ≡ map entry_of (map (λ e. e.1) es)
entries_keyed [] sorted keyed = refl
entries_keyed (e ∷ es) sorted keyed =
    let head : key_of e.1 ≡ e.0 = keyed e.0 e.1 (ap (λ b. cond b (Some e.1) (find key_cmp e.0 es)) (key_itself e.0)) in
    let rest : es ≡ map entry_of (map (λ e. e.1) es) =
    entries_keyed es (both_second _ _ sorted) (λ k l found. keyed k l (found_behind k l e es (both_first _ _ sorted) found)) in
    λ i. (sym head i, e.1) ∷ rest i

-- The links of a database are sorted by their keys.
links_by_key : (d : Database) → AreAtTheirKeys d → AreByKey (links_of d)
links_by_key d keyed =
    by_key-entries d.links (links_of d) (entries_keyed (entries d.links) (entries_sorted d.links) (λ k l found. keyed k l (get-entries d.links k ∙ found)))

less_local : (a b i j : ℕ) → a ≡ b → ordering_then (nat_cmp a b) (nat_cmp i j) ≡ Less → i < j
less_local a b i j same less = grind (arith, nat_tests)

-- Of two links from a router, the later one in the list has the greater local address.
pub locals_rise : (d : Database) → AreAtTheirKeys d → (place i j : ℕ) (l m : Link) → slice_get (links_from_index d place) i ≡ Some l → slice_get (links_from_index d place) j ≡ Some m
    → i < j → l.local < m.local
locals_rise d keyed place i j l m here there less =
    let rows = links_from_index d place in
    let by_key : AreByKey (links_from_index d place) = by_key-filter (λ k. nat_eq k.from (slice_index (router_list d) place)) (links_of d) (links_by_key d keyed) in
    let within = slice_get_within (links_from_index d place) j m there in
    let up = rises keys_total entry_of rows (test_from_true _ by_key) i j l less within in
    let first : slice_index_or (links_from_index d place) i l ≡ l = get_or_from_slice_get rows i l l here in
    let second : slice_index_or (links_from_index d place) j l ≡ m = get_or_from_slice_get rows j m l there in
    let keys : key_cmp (key_of l) (key_of m) ≡ Less = subst (λ (n : Link). key_cmp (key_of l) (key_of n) ≡ Less) second (subst (λ (n : Link). key_cmp (key_of n) (key_of (slice_index_or rows j l)) ≡ Less) first up) in
    less_local l.from m.from l.local m.local (runs_from d place i l here ∙ sym (runs_from d place j m there)) keys
