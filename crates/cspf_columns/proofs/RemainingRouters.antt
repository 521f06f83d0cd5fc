-- Lemmas on the routers at which rows (links) still begin or end after changes.
use Rattle.std.proofs.Common.{◌≡◌, ℕ, ◌<◌, ◌≤◌, ◌||◌, Bool, true, false, cond, T, Option, Some, List, [], ◌∷◌, All, Contains, filter, length, map, get_or, nat_eq, refl, sym, ap, subst, ◌∙◌, arith, rules}
use Rattle.std.specs.Ordering.{nat_cmp}
use Rattle.std.specs.FinMap.{is_sorted}
use Rattle.std.specs.FinMap.Entries.{below_all}
use Rattle.std.proofs.lemmas.Bool.Decides.{nat_tests}
use Rattle.std.proofs.lemmas.List.{get_or_default}
use Rattle.std.proofs.lemmas.List.Elements.{All-head, All-tail, All-map, All-contains, filter_passes}
use Rattle.std.proofs.lemmas.List.Folds.{Any-from_list_any, list_any_at}
use Rattle.cspf_model.specs.declared.link.Link.{Link}
use Rattle.cspf_model.specs.declared.batch.Change.{Change}
use Rattle.cspf_model.specs.declared.batch.Change.TheVariants.{Put}
use Rattle.cspf_model.specs.Database.{Database, Key, key_of, link_at}
use Rattle.std.specs.Ordering.{eq_by_cmp}
use Rattle.cspf_columns.specs.Index.{with_nothing, router_list}
use Rattle.cspf_model.specs.Changes.{change_key_cmp, link_key, key_changed, link_left}
use Rattle.cspf_model.specs.Lemmas.LinkChanges.{relinked, all_relinked}
use Rattle.cspf_model.specs.Lemmas.CountedEnds.{AnyEndsAt, HasListedEnds, any_from, any_to, is_end_of}
use Rattle.cspf_model.specs.Lemmas.LinkRows.{database_of, AreByKey}
use Rattle.cspf_columns.specs.Rows.{AreRising, IsEndColumn, ArePlacesIn}
use Rattle.cspf_columns.proofs.SortedEntries.{both, both_first, both_second, test_from_true, true_from_test}
use Rattle.cspf_model.proofs.Databases.LinksOfRows.{link_at-database_of, row-find, rows_listed}
use Rattle.cspf_model.proofs.Databases.ChangedRows.{link_at-relinked}
use Rattle.cspf_columns.proofs.RowOrder.{own_keys}
use Rattle.cspf_columns.proofs.RouterColumn.{to_router, router_list-column}
use Rattle.cspf_columns.proofs.RouterPlaces.{moved_ends}
use Rattle.cspf_columns.proofs.OwnedPrefixes.{Contains-filter}

-- a filter keeps at most `length ns` numbers of the list `ns`
length-filter-le : (p : ℕ → Bool) (ns : List ℕ) → length (filter p ns) ≤ length ns
length-filter-le p [] = omega arith
length-filter-le p (n ∷ ns) =
    let rest = length-filter-le p ns in
    elim (p n) as (λ b. length (cond b (n ∷ filter p ns) (filter p ns)) ≤ length (n ∷ ns)) [ true ↦ omega (arith, rest) | false ↦ omega (arith, rest) ]

-- if a filter keeps at least `length ns` numbers of the list `ns`, the filter keeps all of them
pub filter_whole : (p : ℕ → Bool) (ns : List ℕ) → length ns ≤ length (filter p ns) → filter p ns ≡ ns
filter_whole p [] h = refl
filter_whole p (n ∷ ns) h =
    elim (p n) as (λ b. length (n ∷ ns) ≤ length (cond b (n ∷ filter p ns) (filter p ns)) → cond b (n ∷ filter p ns) (filter p ns) ≡ n ∷ ns) [
      | true ↦ λ as_many. ap (λ ms. n ∷ ms) (filter_whole p ns (omega (arith, as_many)))
      | false ↦ λ as_many. absurd (omega (arith, as_many, length-filter-le p ns))
    ] h

-- if a number is below all numbers of a list, the number is below all numbers that a filter keeps
below_filter : (p : ℕ → Bool) (q : ℕ) (ns : List ℕ) → T (below_all nat_cmp q (map with_nothing ns)) → T (below_all nat_cmp q (map with_nothing (filter p ns)))
below_filter p q [] below = tt
below_filter p q (n ∷ ns) below =
    elim (p n) as (λ b. T (below_all nat_cmp q (map with_nothing (cond b (n ∷ filter p ns) (filter p ns))))) [
      | true ↦ both _ _ (both_first _ _ below) (below_filter p q ns (both_second _ _ below))
      | false ↦ below_filter p q ns (both_second _ _ below)
    ]

-- if a list of numbers is in increasing order, the numbers that a filter keeps are in increasing
-- order
sorted_filter : (p : ℕ → Bool) (ns : List ℕ) → T (is_sorted nat_cmp (map with_nothing ns)) → T (is_sorted nat_cmp (map with_nothing (filter p ns)))
sorted_filter p [] sorted = tt
sorted_filter p (n ∷ ns) sorted =
    elim (p n) as (λ b. T (is_sorted nat_cmp (map with_nothing (cond b (n ∷ filter p ns) (filter p ns))))) [
      | true ↦ both _ _ (below_filter p n ns (both_first _ _ sorted)) (sorted_filter p ns (both_second _ _ sorted))
      | false ↦ sorted_filter p ns (both_second _ _ sorted)
    ]

rising_filter : (p : ℕ → Bool) (routers : List ℕ) → AreRising routers → AreRising (filter p routers)
rising_filter p routers rising = true_from_test _ (sorted_filter p routers (test_from_true _ rising))

either_second : (b : Bool) → (b || true) ≡ true
either_second b = search rules

itself : (n : ℕ) → nat_eq n n ≡ true
itself n = grind (arith, nat_tests)

same_number : (m n : ℕ) → nat_eq m n ≡ true → m ≡ n
same_number m n tie = grind (arith, nat_tests)

-- the test `is_end_of` passes for the router at which a row (a link) begins
from_passes : (rows : List Link) (k : ℕ) (d : Link) → k < length rows → is_end_of rows (get_or rows k d).from ≡ true
from_passes rows k d h = search (rules, any_to, either_second, itself, list_any_at)

to_passes : (rows : List Link) (k : ℕ) (d : Link) → k < length rows → is_end_of rows (get_or rows k d).to ≡ true
to_passes rows k d h = search (rules, any_from, itself, list_any_at)

-- if the test `is_end_of` passes for a router, a row (a link) begins or ends at this router
end_from : (rows : List Link) (router : ℕ) → is_end_of rows router ≡ true → AnyEndsAt rows router
end_from rows router passes = search (rules, Any-from_list_any, any_from, any_to, get_or_default, same_number)

-- lemmas on keeping only the routers at which rows (links) begin or end
module _ (rows : List Link) (routers ends : List ℕ) (are : IsEndColumn rows routers ends) where
  -- the filter keeps the router at which a row (a link) begins
  froms_kept : All (λ l. Contains (filter (is_end_of rows) routers) l.from) rows
  froms_kept k d h = Contains-filter (is_end_of rows) routers (get_or rows k d).from (are.froms k d h) (from_passes rows k d h)

  tos_kept : All (λ l. Contains (filter (is_end_of rows) routers) l.to) rows
  tos_kept k d h = Contains-filter (is_end_of rows) routers (get_or rows k d).to (to_router rows routers ends are.ends k d h) (to_passes rows k d h)

  -- If each item of the column of ends is replaced by the router's index in the list `kept`, the
  -- result is the column of ends for this list. For each row, the column of ends has the index of
  -- the router at which the row ends.
  pub column_kept : (kept places : List ℕ) → kept ≡ filter (is_end_of rows) routers → ArePlacesIn kept routers places → IsEndColumn rows kept (map (λ e. get_or places e 0) ends)
  column_kept kept places is placed =
      let among : All (Contains (filter (is_end_of rows) routers)) (map (λ e. get_or routers e 0) ends) =
      subst (All (Contains (filter (is_end_of rows) routers))) (sym are.ends.each) (All-map (Contains (filter (is_end_of rows) routers)) (λ (l : Link). l.to) rows tos_kept) in
      let moved = moved_ends (filter (is_end_of rows) routers) routers places ends are.ends.within among (rw is at placed) in
      rw is (record { froms = froms_kept; ends = record { within = moved.0; each = moved.1 ∙ are.ends.each } })

  -- Suppose that `kept` has the routers at which rows (links) begin or end, and that `moved` is the
  -- column of ends for `kept`. Then `kept` is the list of the database's routers. For each row, the
  -- column of ends has the index of the router at which the row ends.
  pub router_list-kept : (kept moved : List ℕ) → AreByKey rows → AreRising routers → kept ≡ filter (is_end_of rows) routers → IsEndColumn rows kept moved → kept ≡ router_list (database_of rows)
  router_list-kept kept moved h1 rising is column = search (rules, end_from, filter_passes, is_end_of, rising_filter, router_list-column)

-- lemmas on changes that put links between routers of the list `routers`
module _ (routers : List ℕ) where
  one_listed : (c : Change) → HasListedEnds routers c → (b : Bool) (o : Option Link) (l : Link) → (o ≡ Some l → HasListedEnds routers (Put l)) → cond b (link_left c) o ≡ Some l → HasListedEnds routers (Put l)
  one_listed c known b o l old is = search rules

  listed_after : (d : Database) (cs : List Change) → ((k : Key) (l : Link) → link_at d k ≡ Some l → HasListedEnds routers (Put l)) → All (HasListedEnds routers) cs
      → (k : Key) (l : Link) → link_at (all_relinked d cs) k ≡ Some l → HasListedEnds routers (Put l)
  listed_after d [] old all k l is = old k l is
  listed_after d (c ∷ cs) old all k l is =
      listed_after (relinked d c) cs (λ j m at. one_listed c (All-head (HasListedEnds routers) c cs all) (eq_by_cmp change_key_cmp (link_key j) (key_changed c)) (link_at d j) m (old j m) (sym (link_at-relinked d c j) ∙ at))
      (All-tail (HasListedEnds routers) c cs all) k l is

  -- Suppose that the list `routers` has the two routers of each row (a link) before the changes,
  -- and the two routers of each link that the changes put. Then the list has the two routers of
  -- each row after the changes.
  pub rows_listed_after : (rows new : List Link) (ends : List ℕ) (cs : List Change) → IsEndColumn rows routers ends → AreByKey new → database_of new ≡ all_relinked (database_of rows) cs
      → All (HasListedEnds routers) cs → All (λ l. HasListedEnds routers (Put l)) new
  rows_listed_after rows new ends cs are by_key made all k d h =
      let l : Link = get_or new k d in
      let both_ends : All (λ m. HasListedEnds routers (Put m)) rows = λ j e w. (are.froms j e w, to_router rows routers ends are.ends j e w) in
      let old : (q : Key) (m : Link) → link_at (database_of rows) q ≡ Some m → HasListedEnds routers (Put m) =
      λ q m is. All-contains (λ n. HasListedEnds routers (Put n)) rows m both_ends (row-find rows q m (sym (link_at-database_of rows q) ∙ is)) in
      listed_after (database_of rows) cs old all (key_of l) l (sym (ap (λ e. link_at e (key_of l)) made) ∙ (rows_listed new (own_keys new by_key)).each k d h)
