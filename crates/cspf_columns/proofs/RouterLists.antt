-- Lemmas on sorted lists of routers, and on the rows (links) that begin at a router of such a list.
use Rattle.std.proofs.Common.{◌≡◌, ℕ, ◌+◌, ◌<◌, ◌≤◌, ◌↔◌, Bool, true, cond, T, IsTrue, Option, List, [], ◌∷◌, ◌-◌, All, Contains, length, map, take, drop, get_or, slice_index, Result, Ok, Err, IfOk, IfErr, IfNone, is_some, is_ok, nat_eq, nat_eq, refl, sym, ap, subst, ◌∙◌, arith, rules}
use Rattle.std.specs.Ordering.{nat_cmp, eq_by_cmp, is_eq}
use Rattle.std.specs.declared.cmp.Ordering.TheVariants.{Less, Greater}
use Rattle.std.specs.Cmp.{nat_cmp_total, ranked, Equal-is, eq_by_cmp_equiv, tied_itself}
use Rattle.std.specs.List.{HoldsAt, list_any, between, filter, insert}
use Rattle.std.specs.List.Sorted.{IsPartitionPoint, IsBinarySearchResult, IsStrictlyIncreasing}
use Rattle.std.specs.Result.{result_ok}
use Rattle.std.specs.FinMap as finite
use Rattle.std.specs.FinMap.{is_sorted, put, entries, entries_sorted, nat_cmp-IsAntisymmetric}
use Rattle.std.specs.FinMap.Entries.{is_sorted-put, is_some-find}
use Rattle.std.specs.FinSet as set
use Rattle.std.proofs.lemmas.List.{get_or_default, length-map, take-map, drop-map, nil_from_length, get_or_read_under}
use Rattle.std.proofs.lemmas.List.Elements.{Contains-get_or}
use Rattle.std.proofs.lemmas.Map.Views.{list_any-from_Contains, Contains-from_any}
use Rattle.cspf_model.specs.declared.link.Link.{Link}
use Rattle.cspf_columns.specs.declared.spans.Span.{Span}
use Rattle.cspf_model.specs.Lemmas.CountedEnds.{AnyEndsAt}
use Rattle.cspf_model.specs.Database.{Database, IsRouterOf, EndsAt, AreAtTheirKeys, ends_of, all_routers, router_count}
use Rattle.cspf_columns.specs.Index.{with_nothing, numbers_in, links_of, router_list, links_from_index}
use Rattle.cspf_model.specs.Lemmas.LinkRows.{database_of, marked_database, AreByKey}
use Rattle.cspf_columns.specs.Rows.{AreRising, AreEndsOf, AreSpansOf, IsSpanOf}
use Rattle.cspf_columns.proofs.SortedEntries.{test_from_true, true_from_test, put-gap, rises, searchable, gap_from}
use Rattle.cspf_columns.proofs.RowOrder.{links_of-database_of, own_keys}
use Rattle.cspf_model.proofs.Databases.LinksOfRows.{rows_listed, rows_keyed}
use Rattle.cspf_model.proofs.Databases.CountedRouters.{routers_counted}
use Rattle.cspf_model.proofs.Databases.EndCounts.{any-ends_of, known_end}

-- if a search doesn't find a router, it returns the index at which the router would be inserted
pub router_gap : (routers : List ℕ) (router : ℕ) (r : Result ℕ ℕ) → AreRising routers → IsBinarySearchResult (λ y. nat_cmp y router) routers r
    → IfErr r (IsPartitionPoint (λ y. nat_cmp y router ≡ Less) (λ y. nat_cmp y router ≡ Greater) routers)
router_gap routers router r rising found = gap_from (λ y. nat_cmp y router) routers r found (searchable nat_cmp_total with_nothing routers router (test_from_true _ rising))

-- if a list of routers is seen as map entries (`with_nothing`), inserting a router between the
-- lower and the higher routers is the same as `put`
pub put-new : (routers : List ℕ) (router at : ℕ) → at ≤ length routers → IsPartitionPoint (λ y. nat_cmp y router ≡ Less) (λ y. nat_cmp y router ≡ Greater) routers at
    → map with_nothing (insert routers at router) ≡ put nat_cmp router tt (map with_nothing routers)
put-new routers router at h gap = sym (put-gap nat_cmp_total with_nothing routers at router h gap.0 gap.1)

-- a list of routers in increasing order is still in increasing order after a router is put in it
pub rising-put : (routers more : List ℕ) (router : ℕ) → AreRising routers → map with_nothing more ≡ put nat_cmp router tt (map with_nothing routers) → AreRising more
rising-put routers more router rising e = true_from_test _ (subst (λ es. T (is_sorted nat_cmp es)) (sym e) (is_sorted-put nat_cmp nat_cmp_total router tt (map with_nothing routers) (test_from_true _ rising)))

-- the keys of the entries that `with_nothing` makes of numbers are these numbers
numbers_alone : (ns : List ℕ) → map (λ (e : ℕ × Unit {0}). e.0) (map with_nothing ns) ≡ ns
numbers_alone [] = refl
numbers_alone (n ∷ ns) = ap (λ ms. n ∷ ms) (numbers_alone ns)

-- `with_nothing` makes the same entries again from the keys of entries without values
entries_alone : (es : List (ℕ × Unit {0})) → map with_nothing (map (λ e. e.0) es) ≡ es
entries_alone [] = refl
entries_alone (e ∷ es) = ap (λ fs. e ∷ fs) (entries_alone es)

-- if a list has each router of the rows (links) once, in increasing order, it is the list of the
-- database's routers
pub router_list-entries : (rows : List Link) (routers : List ℕ) → AreByKey rows → map with_nothing routers ≡ entries (numbers_in (ends_of rows)) → routers ≡ router_list (database_of rows)
unfolding router_list
router_list-entries rows routers h1 is = search (rules, links_of-database_of, numbers_alone)

-- the list of the database's routers is in increasing order
pub rising-router_list : (d : Database) → AreRising (router_list d)
unfolding router_list
rising-router_list d = true_from_test _ (subst (λ es. T (is_sorted nat_cmp es)) (sym (entries_alone (entries (numbers_in (ends_of (links_of d)))))) (entries_sorted (numbers_in (ends_of (links_of d)))))

-- `AreRising` implies `IsStrictlyIncreasing`
pub increasing : (ns : List ℕ) → AreRising ns → IsStrictlyIncreasing ns
increasing ns rising k h = ranked (get_or ns k 0) (get_or ns (k + 1) 0) Less (sym (rises nat_cmp_total with_nothing ns (test_from_true _ rising) k (k + 1) 0 (omega arith) h))

-- `numbers_in` and `from_list` make sets with the same members from a list of numbers
pub contains_key-numbers_in : (ns : List ℕ) (n : ℕ) → finite.contains_key (numbers_in ns) n ≡ set.contains (set.from_list {R = nat_cmp} ns) n
contains_key-numbers_in ns n =
    ap is_some (finite.get-from_entries nat_cmp_total (map with_nothing ns) n) ∙ is_some-find nat_cmp n (map with_nothing ns)
    ∙ ap (list_any (eq_by_cmp nat_cmp n)) (numbers_alone ns) ∙ sym (set.contains-from_list nat_cmp_total ns n)

-- `numbers_in` and `from_list` make sets of the same size from a list of numbers
len-numbers_in : (ns : List ℕ) → finite.len (numbers_in ns) ≡ set.len (set.from_list {R = nat_cmp} ns)
len-numbers_in [] = finite.len-empty nat_cmp (Unit {0}) ∙ sym (set.len-empty nat_cmp)
len-numbers_in (n ∷ ns) =
    finite.len-insert nat_cmp_total (numbers_in ns) n tt
    ∙ (λ i. cond (contains_key-numbers_in ns n i) (len-numbers_in ns i) (len-numbers_in ns i + 1))
    ∙ sym (set.len-insert nat_cmp_total (set.from_list ns) n)

-- the length of the list of routers is the number of the database's routers
pub length-router_list : (d : Database) → length (router_list d) ≡ router_count d
unfolding router_list
length-router_list d =
    length-map (entries (numbers_in (ends_of (links_of d)))) (λ e. e.0) ∙ sym (finite.len-entries (numbers_in (ends_of (links_of d)))) ∙ len-numbers_in (ends_of (links_of d))

-- a router is in the list of routers exactly if it is in the set of all routers of the database
any-router_list : (d : Database) (router : ℕ) → list_any (eq_by_cmp nat_cmp router) (router_list d) ≡ set.contains (all_routers d) router
unfolding router_list
any-router_list d router = sym (finite.contains_key-keys (numbers_in (ends_of (links_of d))) router) ∙ contains_key-numbers_in (ends_of (links_of d)) router

-- a router is in the database's list of routers exactly if it is a router of the database
pub Contains-router_list : (d : Database) → AreAtTheirKeys d → (router : ℕ) → Contains (router_list d) router ↔ IsRouterOf d router
Contains-router_list d keyed router = (
  λ among. (routers_counted d keyed router).0 (sym (any-router_list d router) ∙ list_any-from_Contains (eq_by_cmp_equiv nat_cmp_total) router (router_list d) among),
  λ is. Contains-from_any (λ x y e. nat_cmp-IsAntisymmetric x y ((Equal-is (nat_cmp x y)).0 e)) router (router_list d) (any-router_list d router ∙ (routers_counted d keyed router).1 is),
)

-- each router at which a row (a link) begins or ends is in the list of routers
pub listed_from_ends : (rows : List Link) (routers : List ℕ) (router : ℕ) → AreByKey rows → routers ≡ router_list (database_of rows) → set.contains (set.from_list {R = nat_cmp} (ends_of rows)) router ≡ true → Contains routers router
listed_from_ends rows routers router by_key all there =
    let d : Database = database_of rows in
    let counted : set.contains (all_routers d) router ≡ true = ap (λ links. set.contains (set.from_list {R = nat_cmp} (ends_of links)) router) (links_of-database_of rows by_key) ∙ there in
    subst (λ list. Contains list router) (sym all)
    (Contains-from_any (λ x y e. nat_cmp-IsAntisymmetric x y ((Equal-is (nat_cmp x y)).0 e)) router (router_list d) (any-router_list d router ∙ counted))

-- if the routers below the index `at` are lower than `router`, and the routers from `at` on are
-- higher, the list doesn't have `router`
pub apart_from_gap : (routers : List ℕ) (router at : ℕ) → IsPartitionPoint (λ y. nat_cmp y router ≡ Less) (λ y. nat_cmp y router ≡ Greater) routers at → Contains routers router → ⊥
apart_from_gap routers router at gap h2 = search rules

-- if a search of the database's list of routers doesn't find a router, this router isn't a router
-- of the database
pub none_from_search : (d : Database) (router : ℕ) (r : Result ℕ ℕ) (place : Option ℕ) → AreAtTheirKeys d → place ≡ result_ok r
    → IfErr r (IsPartitionPoint (λ y. nat_cmp y router ≡ Less) (λ y. nat_cmp y router ≡ Greater) (router_list d)) → IfNone place (¬ IsRouterOf d router)
none_from_search d router (Ok at) place keyed e gap = rw e tt
none_from_search d router (Err at) place keyed e gap = rw e (λ is. apart_from_gap (router_list d) router at gap ((Contains-router_list d keyed router).1 is))

-- without rows (links) the list of routers is empty
pub router_list-nil : [] ≡ router_list (database_of [])
router_list-nil = router_list-entries [] [] refl (sym (nil_from_length _ (sym (finite.len-entries _) ∙ finite.len-empty nat_cmp (Unit {0}))))

-- the slice of the column of ends at a range of the rows (links) has the indexes of the routers at
-- which these rows end
pub ends_between : (rows : List Link) (routers ends : List ℕ) (first end : ℕ) (part : List Link) → AreEndsOf rows routers ends → between first end rows ≡ part
    → map (λ e. slice_index routers e) (between first end ends) ≡ map (λ (l : Link). l.to) part
ends_between rows routers ends first end part so is =
    map_between (λ e. slice_index routers e) ends first end ∙ ap (between first end) so.each ∙ sym (map_between (λ (l : Link). l.to) rows first end) ∙ ap (map (λ (l : Link). l.to)) is
  where
    map_between : {A B : Type 0} (f : A → B) (xs : List A) (i j : ℕ) → map f (between i j xs) ≡ between i j (map f xs)
    map_between f xs i j = sym (take-map f (j - i) (drop i xs)) ∙ ap (take (j - i)) (sym (drop-map f i xs))

-- Marks don't change the list of a database's routers. A mark says that a router has no transit.
pub routers_marked : (rows : List Link) (marks : List ℕ) → router_list (database_of rows) ≡ router_list (marked_database rows marks)
unfolding router_list
routers_marked rows marks = refl

-- the rows (links) that begin at the router with a given index are the database's links that begin
-- at this router
pub part_at : (d : Database) (rows : List Link) (marks : List ℕ) (routers : List ℕ) (at router : ℕ) (part : List Link) → marked_database rows marks ≡ d → AreByKey rows → routers ≡ router_list (database_of rows)
    → at < length (router_list d) → router ≡ get_or routers at router → part ≡ filter (λ l. nat_eq l.from router) rows → part ≡ links_from_index d at
part_at d rows marks routers at router part e h2 all h read is = search (rules, get_or_read_under, links_of-database_of, routers_marked)

-- At a router's index, the column of spans has the span of this router. A router's span is the
-- range of the rows that begin at it, with bounds of their local addresses.
pub span_read : (d : Database) (rows : List Link) (marks : List ℕ) (routers : List ℕ) (spans : List Span) (at : ℕ) (span : Span) → marked_database rows marks ≡ d → routers ≡ router_list (database_of rows)
    → AreSpansOf rows routers spans → at < length (router_list d) → span ≡ get_or spans at span → IsSpanOf rows (slice_index routers at) span
span_read d rows marks routers spans at span e all are h read = search (rules, routers_marked)

-- the rows (links) in the range of a router's span are the links that begin at this router
pub span_at : (d : Database) (rows : List Link) (marks : List ℕ) (routers : List ℕ) (spans : List Span) (at : ℕ) (span : Span) → marked_database rows marks ≡ d → AreByKey rows → routers ≡ router_list (database_of rows)
    → AreSpansOf rows routers spans → at < length (router_list d) → span ≡ get_or spans at span → between span.first span.end rows ≡ links_from_index d at
span_at d rows marks routers spans at span e by_key all are h read =
    let within : at < length routers = subst (λ rs. at < length rs) (sym (all ∙ routers_marked rows marks ∙ ap router_list e)) h in
    part_at d rows marks routers at (slice_index routers at) (between span.first span.end rows) e by_key all h (get_or_default routers at 0 (slice_index routers at) within) (span_read d rows marks routers spans at span e all are h read).part

-- In a router's span, `first` is at most `end`, and `end` is at most the number of rows (links). A
-- router's span is the range of the rows that begin at it, with bounds of their local addresses.
pub span_within : (d : Database) (rows : List Link) (marks : List ℕ) (routers : List ℕ) (spans : List Span) (at : ℕ) (span : Span) → marked_database rows marks ≡ d → routers ≡ router_list (database_of rows)
    → AreSpansOf rows routers spans → at < length (router_list d) → span ≡ get_or spans at span → (span.first ≤ span.end) × (span.end ≤ length rows)
span_within d rows marks routers spans at span e all are h read =
    let is = span_read d rows marks routers spans at span e all are h read in
    (is.order, is.bound)

-- the slice of the column of ends at the range of a router's rows (links) has the indexes of the
-- routers at which these rows end
pub ends_at_part : (d : Database) (rows : List Link) (marks : List ℕ) (routers ends : List ℕ) (first end at : ℕ) → marked_database rows marks ≡ d → routers ≡ router_list (database_of rows) → AreEndsOf rows routers ends
    → between first end rows ≡ links_from_index d at → map (λ n. slice_index (router_list d) n) (between first end ends) ≡ map (λ (l : Link). l.to) (links_from_index d at)
ends_at_part d rows marks routers ends first end at e all so is =
    subst (λ rs. map (λ n. slice_index rs n) (between first end ends) ≡ map (λ (l : Link). l.to) (links_from_index d at)) (all ∙ routers_marked rows marks ∙ ap router_list e) (ends_between rows routers ends first end (links_from_index d at) so is)

-- a search of the list of routers finds a router exactly if it is a router of the database
pub tells_router : (d : Database) (router : ℕ) (r : Result ℕ ℕ) (b : Bool) → AreAtTheirKeys d → b ≡ is_ok r → IfOk r (λ at. at < length (router_list d)) → IfOk r (HoldsAt (λ y. y ≡ router) (router_list d))
    → IfErr r (IsPartitionPoint (λ y. nat_cmp y router ≡ Less) (λ y. nat_cmp y router ≡ Greater) (router_list d)) → IsTrue b ↔ IsRouterOf d router
tells_router d router (Err at) b keyed e within found gap = (λ on. absurd (cc), λ is. absurd (apart_from_gap (router_list d) router at gap ((Contains-router_list d keyed router).1 is)))
tells_router d router (Ok at) b keyed e within found gap =
    (λ _. (Contains-router_list d keyed router).0 (subst (Contains (router_list d)) (found 0) (Contains-get_or (router_list d) at 0 within)), λ _. e)

-- if a search finds a router in a list, the list has this router
pub among_from_search : (routers : List ℕ) (router : ℕ) (r : Result ℕ ℕ) (b : Bool) → b ≡ is_ok r → IfOk r (λ at. at < length routers) → IfOk r (HoldsAt (λ y. y ≡ router) routers) → b ≡ true
    → Contains routers router
among_from_search routers router (Ok at) b e within found on = subst (Contains routers) (found 0) (Contains-get_or routers at 0 within)
among_from_search routers router (Err at) b e within found on = absurd (cc)

-- some row (a link) begins or ends at each router in the list of routers
pub listed_end : (rows : List Link) (routers : List ℕ) (router : ℕ) → AreByKey rows → routers ≡ router_list (database_of rows) → Contains routers router → AnyEndsAt rows router
listed_end rows routers router by_key all among =
    let is = (Contains-router_list (database_of rows) (rows_keyed rows) router).0 (subst (λ rs. Contains rs router) all among) in
    let has = (rows_listed rows (own_keys rows by_key)).whole is.0 is.1 in
    (has.0, has.1, λ d. subst (EndsAt router) (sym (get_or_default rows has.0 d is.0 has.1 ∙ has.2)) is.2)

-- each router in the list of routers is in the set of the routers at which rows (links) begin or
-- end
pub ends_listed : (rows : List Link) (routers : List ℕ) → AreByKey rows → routers ≡ router_list (database_of rows) → All (λ r. set.contains (set.from_list {R = nat_cmp} (ends_of rows)) r ≡ true) routers
ends_listed rows routers by_key all k d h =
    let router : ℕ = get_or routers k d in
    set.contains-from_list nat_cmp_total (ends_of rows) router ∙ any-ends_of (eq_by_cmp nat_cmp router) rows
    ∙ known_end rows router router (listed_end rows routers router by_key all (Contains-get_or routers k d h)) (ap is_eq (tied_itself nat_cmp_total router))
