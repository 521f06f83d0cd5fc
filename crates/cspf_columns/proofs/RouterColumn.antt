-- The list of routers has exactly the routers at which rows (links) begin or end.
use Rattle.std.proofs.Common.{◌≡◌, ℕ, ◌<◌, ◌||◌, Bool, true, Option, is_some, List, All, Contains, length, map, get_or, slice_index, inl, inr, refl, sym, ap, subst, ◌∙◌, rules}
use Rattle.std.specs.Ordering.{nat_cmp, eq_by_cmp, is_eq}
use Rattle.std.specs.Cmp.{nat_cmp_total, Equal-is, eq_by_cmp_equiv, tied_itself}
use Rattle.std.specs.List.{list_any}
use Rattle.std.specs.FinMap as finite
use Rattle.std.specs.FinMap.{entries, nat_cmp-IsAntisymmetric}
use Rattle.std.specs.FinSet as set
use Rattle.std.proofs.lemmas.List.{get_or-map}
use Rattle.std.proofs.lemmas.List.Elements.{All-contains, Contains-get_or}
use Rattle.std.proofs.lemmas.List.Folds.{Any-from_list_any}
use Rattle.std.proofs.lemmas.Map.Views.{list_any-from_Contains, Contains-from_any}
use Rattle.cspf_model.specs.declared.link.Link.{Link}
use Rattle.cspf_model.specs.Database.{EndsAt, ends_of}
use Rattle.cspf_columns.specs.Index.{with_nothing, numbers_in, router_list}
use Rattle.cspf_model.specs.Lemmas.CountedEnds.{AnyEndsAt}
use Rattle.cspf_model.specs.Lemmas.LinkRows.{database_of, AreByKey}
use Rattle.cspf_columns.specs.Rows.{AreRising, AreEndsOf, IsEndColumn}
use Rattle.cspf_columns.proofs.SortedEntries.{test_from_true, entries-from_entries}
use Rattle.cspf_columns.proofs.RowOrder.{own_keys}
use Rattle.cspf_model.proofs.Databases.LinksOfRows.{rows_listed, rows_keyed}
use Rattle.cspf_model.proofs.Databases.EndCounts.{any-ends_of, known_end}
use Rattle.cspf_model.proofs.Databases.CountedRouters.{end_at}
use Rattle.cspf_columns.proofs.RouterLists.{contains_key-numbers_in, router_list-entries, Contains-router_list}
use Rattle.cspf_columns.proofs.EndColumn.{length-ends}

-- two tests that imply each other have the same result
alike : (s t : Bool) → (s ≡ true → t ≡ true) → (t ≡ true → s ≡ true) → s ≡ t
alike s t there back = search rules

-- two options of `Unit` are equal if both are `Some` or both are `None`
same_nothing : (o p : Option (Unit {0})) → is_some o ≡ is_some p → o ≡ p
same_nothing o p e = search rules

-- if two lists have the same members, they make the same set of numbers
numbers_alike : (ms ns : List ℕ) → ((q : ℕ) → list_any (eq_by_cmp nat_cmp q) ms ≡ list_any (eq_by_cmp nat_cmp q) ns) → numbers_in ms ≡ numbers_in ns
numbers_alike ms ns same =
    finite.same_map nat_cmp_total nat_cmp-IsAntisymmetric (numbers_in ms) (numbers_in ns) (λ q. same_nothing _ _ (contains_key-numbers_in ms q ∙ set.contains-from_list nat_cmp_total ms q ∙ same q
    ∙ sym (contains_key-numbers_in ns q ∙ set.contains-from_list nat_cmp_total ns q)))

-- the list of routers has the router at which a row (a link) ends
pub to_router : (rows : List Link) (routers ends : List ℕ) → AreEndsOf rows routers ends → (k : ℕ) (l : Link) → k < length rows → Contains routers (get_or rows k l).to
to_router rows routers ends are k l h =
    let within : k < length ends = subst (λ n. k < n) (sym (length-ends rows routers ends are)) h in
    let found : slice_index routers (get_or ends k 0) ≡ (get_or rows k l).to = sym (get_or-map (λ e. slice_index routers e) ends k 0 0 within) ∙ ap (λ ns. get_or ns k 0) are.each ∙ get_or-map (λ (m : Link). m.to) rows k l 0 h in
    subst (Contains routers) found (Contains-get_or routers (get_or ends k 0) 0 (are.within k 0 within))

-- lemmas for the case that the list of routers has exactly the routers at which rows (links) begin
-- or end
module _ (rows : List Link) (routers ends : List ℕ) (are : IsEndColumn rows routers ends) (stay : All (AnyEndsAt rows) routers) where
  -- a router at which a row (a link) begins or ends is in the list
  among : (q k : ℕ) (l : Link) → k < length rows → get_or rows k l ≡ l → EndsAt q l → Contains routers q
  among q k l h is (inl from) = subst (Contains routers) (ap (λ (m : Link). m.from) is ∙ from) (are.froms k l h)
  among q k l h is (inr to) = subst (Contains routers) (ap (λ (m : Link). m.to) is ∙ to) (to_router rows routers ends are.ends k l h)

  same_members : (q : ℕ) → list_any (eq_by_cmp nat_cmp q) routers ≡ list_any (eq_by_cmp nat_cmp q) (ends_of rows)
  same_members q =
      alike (list_any (eq_by_cmp nat_cmp q) routers) (list_any (eq_by_cmp nat_cmp q) (ends_of rows))
      (λ on. any-ends_of (eq_by_cmp nat_cmp q) rows
      ∙ known_end rows q q (All-contains (AnyEndsAt rows) routers q stay (Contains-from_any (λ x y e. nat_cmp-IsAntisymmetric x y ((Equal-is (nat_cmp x y)).0 e)) q routers on)) (ap is_eq (tied_itself nat_cmp_total q)))
      (λ on. let some = Any-from_list_any (λ (l : Link). eq_by_cmp nat_cmp q l.from || eq_by_cmp nat_cmp q l.to) rows (sym (any-ends_of (eq_by_cmp nat_cmp q) rows) ∙ on) in
      list_any-from_Contains (eq_by_cmp_equiv nat_cmp_total) q routers (among q some.0 some.1 some.2 some.3 (end_at q some.1 some.4)))

  -- the list `routers` is the list of the routers of the database
  pub router_list-column : AreByKey rows → AreRising routers → routers ≡ router_list (database_of rows)
  router_list-column by_key rising =
      router_list-entries rows routers by_key (sym (entries-from_entries nat_cmp_total (map with_nothing routers) (test_from_true _ rising)) ∙ ap entries (numbers_alike routers (ends_of rows) same_members))

-- the list of the database's routers has the router at which a row (a link) begins
pub from_among : (rows : List Link) (at : ℕ) (d : Link) → AreByKey rows → at < length rows → Contains (router_list (database_of rows)) (get_or rows at d).from
from_among rows at d by_key h =
    (Contains-router_list (database_of rows) (rows_keyed rows) (get_or rows at d).from).1 (get_or rows at d, (rows_listed rows (own_keys rows by_key)).each at d h, inl refl)

-- the list of the database's routers has the router at which a row (a link) ends
pub to_among : (rows : List Link) (at : ℕ) (d : Link) → AreByKey rows → at < length rows → Contains (router_list (database_of rows)) (get_or rows at d).to
to_among rows at d by_key h =
    (Contains-router_list (database_of rows) (rows_keyed rows) (get_or rows at d).to).1 (get_or rows at d, (rows_listed rows (own_keys rows by_key)).each at d h, inr refl)

-- if `routers` is the list of the database's routers, and `AreEndsOf` holds of the rows (links),
-- `routers` and `ends`, then `IsEndColumn` holds of them
pub column_table : (rows : List Link) (routers ends : List ℕ) → AreByKey rows → routers ≡ router_list (database_of rows) → AreEndsOf rows routers ends → IsEndColumn rows routers ends
column_table rows routers ends by_key all are = record {
  froms = λ k d h. subst (λ rs. Contains rs (get_or rows k d).from) (sym all) (from_among rows k d by_key h);
  ends = are;
}
