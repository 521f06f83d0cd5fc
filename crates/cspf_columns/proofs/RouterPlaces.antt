-- The indexes of routers in another list of routers, and the column of ends for this other list.
-- For each row, the column of ends has the index of the router at which the row ends.
use Rattle.std.proofs.Common.{◌≡◌, ℕ, zero, suc, ◌+◌, ◌-◌, ◌<◌, ◌≤◌, ◌||◌, Bool, true, false, cond, List, [], ◌∷◌, ◌++◌, inl, inr, All, Contains, filter, length, map, take, drop, get_or, slice_index, slice_range, slice_set, append_assoc, nat_lt, nat_eq, refl, sym, ap, subst, ◌∙◌, arith, rules}
use Rattle.std.proofs.lemmas.Grind.{common_steps}
use Rattle.std.specs.List.{list_any, insert}
use Rattle.std.specs.declared.cmp.Ordering.TheVariants.{Less}
use Rattle.std.specs.Cmp.{nat_cmp_total, ranked}
use Rattle.std.proofs.lemmas.Bool.Decides.{nat_tests}
use Rattle.std.proofs.lemmas.List.{take-append-drop, length-map, length-take, drop_more, get_or_at, set_at, map_more}
use Rattle.std.proofs.lemmas.List.Edits.{length-between}
use Rattle.std.proofs.lemmas.List.Elements.{All-nil, All-cons, All-head, All-tail, All-map, All-weaker, All-contains, Contains-append_cases, Contains-append_left, Contains-append_right, Contains-get_or, filter_passes}
use Rattle.cspf_model.specs.declared.link.Link.{Link}
use Rattle.cspf_model.specs.declared.batch.Change.{Change}
use Rattle.cspf_model.specs.declared.batch.Change.TheVariants.{Put, Remove, Node}
use Rattle.cspf_model.specs.Lemmas.CountedEnds.{HasListedEnds, any_to}
use Rattle.cspf_columns.specs.Index.{with_nothing}
use Rattle.cspf_columns.specs.Rows.{AreRising, AreEndsOf, IsEndColumn, IsPlaceOf, ArePlacesIn}
use Rattle.cspf_columns.proofs.SortedEntries.{test_from_true, rises}

-- a list still has each of its items after an insertion
Contains-insert : (xs : List ℕ) (i x y : ℕ) → Contains xs y → Contains (insert xs i x) y
Contains-insert xs i x y has =
    elim (Contains-append_cases (take i xs) (drop i xs) y (subst (λ ys. Contains ys y) (sym (take-append-drop i xs)) has)) [
      | inl front ↦ Contains-append_left (take i xs) (x ∷ drop i xs) y front
      | inr back ↦ Contains-append_right (take i xs) (x ∷ drop i xs) y (Contains-append_right (x ∷ []) (drop i xs) y back)
    ]

pub kept_insert : (xs : List ℕ) (i x : ℕ) → All (Contains (insert xs i x)) xs
kept_insert xs i x k d h = Contains-insert xs i x (get_or xs k d) (Contains-get_or xs k d h)

-- if `ys` has all items of `xs`, and `zs` all items of `ys`, then `zs` has all items of `xs`
pub kept_twice : (xs ys zs : List ℕ) → All (Contains ys) xs → All (Contains zs) ys → All (Contains zs) xs
kept_twice xs ys zs first second = All-weaker (Contains ys) (Contains zs) (λ y. All-contains (Contains zs) ys y second) xs first

-- if the list `xs` has the two routers of the link that a change puts, and `ys` has all routers of
-- `xs`, then `ys` has these two routers
pub listed_still : (xs ys : List ℕ) → All (Contains ys) xs → (c : Change) → HasListedEnds xs c → HasListedEnds ys c
listed_still xs ys kept (Put l) listed = (All-contains (Contains ys) xs l.from kept listed.0, All-contains (Contains ys) xs l.to kept listed.1)
listed_still xs ys kept (Remove from local) listed = tt
listed_still xs ys kept (Node router transit) listed = tt

-- if a filter keeps an item, the item's index among the kept items is the number of earlier items
-- that the filter keeps
filter_place : (p : ℕ → Bool) (rs : List ℕ) (k : ℕ) → k < length rs → p (slice_index rs k) ≡ true → IsPlaceOf (filter p rs) (slice_index rs k) (length (filter p (take k rs)))
filter_place p [] k h on = absurd (omega arith)
filter_place p (r ∷ rs) zero h on = subst (λ b. IsPlaceOf (cond b (r ∷ filter p rs) (filter p rs)) r 0) (sym on) (record { within = omega arith; found = refl })
filter_place p (r ∷ rs) (suc k) h on =
    let rest = filter_place p rs k (omega (arith, h)) on in
    elim (p r) as (λ b. IsPlaceOf (cond b (r ∷ filter p rs) (filter p rs)) (slice_index rs k) (length (cond b (r ∷ filter p (take k rs)) (filter p (take k rs))))) [
      | true ↦ record { within = omega (arith, rest.within); found = rest.found }
      | false ↦ rest
    ]

-- Suppose that, at each index, `places` has the number of earlier items that the filter keeps.
-- Then, for each kept item, `places` has the item's index among the kept items.
pub filter_places : (p : ℕ → Bool) (routers places : List ℕ) → ((k : ℕ) → k < length routers → slice_index places k ≡ length (filter p (take k routers))) → ArePlacesIn (filter p routers) routers places
filter_places p routers places placed = search (rules, All-contains, filter_passes, filter_place)

-- if `f` is already applied to the first `i` items of a list, and is now applied to the next item,
-- it is applied to the first `i + 1` items
pub moved_one : (f : ℕ → ℕ) (xs ns : List ℕ) (i : ℕ) → i < length xs → ns ≡ map f (take i xs) ++ drop i xs → slice_set ns i (f (slice_index ns i)) ≡ map f (take (i + 1) xs) ++ drop (i + 1) xs
moved_one f xs ns i h is = grind (arith, common_steps, append_assoc, drop_more, get_or_at, length-map, length-take, map_more, set_at)

-- if each item of the column of ends is replaced by the router's index in `others`, the new items
-- are the indexes of the same routers in `others`
pub moved_ends : (others routers places ends : List ℕ) → All (λ e. e < length routers) ends → All (Contains others) (map (λ e. slice_index routers e) ends) → ArePlacesIn others routers places
    → All (λ e. e < length others) (map (λ e. slice_index places e) ends) × (map (λ e. slice_index others e) (map (λ e. slice_index places e) ends) ≡ map (λ e. slice_index routers e) ends)
moved_ends others routers places [] within among are = (All-nil _, refl)
moved_ends others routers places (e ∷ ends) within among are =
    let rest = moved_ends others routers places ends (All-tail (λ n. n < length routers) e ends within) (All-tail (Contains others) (slice_index routers e) (map (λ n. slice_index routers n) ends) among) are in
    let at = are e (All-head (λ n. n < length routers) e ends within) (All-head (Contains others) (slice_index routers e) (map (λ n. slice_index routers n) ends) among) in
    (All-cons (λ n. n < length others) (slice_index places e) (map (λ n. slice_index places n) ends) at.within rest.0, λ i. at.found i ∷ rest.1 i)

-- If the list `others` has all routers of `routers`, it has each router whose index in `routers` is
-- an item of the column of ends. For each row, the column of ends has the index of the router at
-- which the row ends.
pub ends_kept : (others routers ends : List ℕ) → All (λ e. e < length routers) ends → All (Contains others) routers → All (Contains others) (map (λ e. slice_index routers e) ends)
ends_kept others routers ends within kept = All-map (Contains others) (λ e. slice_index routers e) ends (λ k d h. kept (get_or ends k d) 0 (within k d h))

-- Suppose that `others` has all routers of `routers`. Suppose also that, for each row (a link),
-- `ends` and `moved` have indexes of the same router. The index in `ends` belongs to `routers`, and
-- the index in `moved` to `others`. Then `moved` is the column of ends for `others`. For each row,
-- the column of ends has the index of the router at which the row ends.
pub column_more : (rows : List Link) (routers ends others moved : List ℕ) → IsEndColumn rows routers ends → All (Contains others) routers → All (λ e. e < length others) moved
    → map (λ e. slice_index others e) moved ≡ map (λ e. slice_index routers e) ends → IsEndColumn rows others moved
column_more rows routers ends others moved are kept within same = record {
  froms = All-weaker (λ (l : Link). Contains routers l.from) (λ (l : Link). Contains others l.from) (λ l. All-contains (Contains others) routers l.from kept) rows are.froms;
  ends = record { within = within; each = same ∙ are.ends.each };
}

-- some item passes a test exactly if the filter keeps at least one item
any-filter : (p : Link → Bool) (rows : List Link) → list_any p rows ≡ nat_lt 0 (length (filter p rows))
any-filter p [] = refl
any-filter p (l ∷ rows) =
    elim (p l) as (λ b. (b || list_any p rows) ≡ nat_lt 0 (length (cond b (l ∷ filter p rows) (filter p rows)))) [ true ↦ grind (arith, nat_tests) | false ↦ any-filter p rows ]

some_left : (m n : ℕ) → nat_lt m n ≡ nat_lt 0 (n - m)
some_left m n = elim (nat_lt m n) as (λ b. nat_lt m n ≡ b → b ≡ nat_lt 0 (n - m)) [ true ↦ λ e. grind (arith, nat_tests) | false ↦ λ e. grind (arith, nat_tests) ] refl

-- if a filter keeps exactly a range of the rows (links), some row passes the filter's test exactly
-- if the range isn't empty
pub any_span : (p : Link → Bool) (rows : List Link) (first end : ℕ) → end ≤ length rows → slice_range rows first end ≡ filter p rows → nat_lt first end ≡ list_any p rows
any_span p rows first end bound is = search (rules, any-filter, length-between, nat_lt, some_left)

-- some item of `map f xs` passes a test exactly if `f` of some item of `xs` passes it
any-map : {A B : Type 0} (p : B → Bool) (f : A → B) (xs : List A) → list_any p (map f xs) ≡ list_any (λ x. p (f x)) xs
any-map p f [] = refl
any-map p f (x ∷ xs) = ap (λ b. p (f x) || b) (any-map p f xs)

-- if two tests agree on each item of a list, they agree on whether some item of the list passes
any_agree : (p q : ℕ → Bool) (ns : List ℕ) → All (λ n. p n ≡ q n) ns → list_any p ns ≡ list_any q ns
any_agree p q [] all = refl
any_agree p q (n ∷ ns) all = λ i. All-head (λ m. p m ≡ q m) n ns all i || any_agree p q ns (All-tail (λ m. p m ≡ q m) n ns all) i

module _ (routers : List ℕ) (rising : AreRising routers) where
  -- in a list in increasing order, the router at a lower index is lower than the router at a higher
  -- index
  pub lower : (i j : ℕ) → i < j → j < length routers → slice_index routers i < slice_index routers j
  lower i j le h = ranked (get_or routers i 0) (get_or routers j 0) Less (sym (rises nat_cmp_total with_nothing routers (test_from_true _ rising) i j 0 le h))

  -- the routers at two indexes are equal exactly if the indexes are equal
  pub one_place : (i j : ℕ) → i < length routers → j < length routers → nat_eq (slice_index routers i) (slice_index routers j) ≡ nat_eq i j
  one_place i j hi hj = search (rules, lower, nat_lt)

  -- An index is an item of the column of ends exactly if a row (a link) ends at the router with
  -- this index. For each row, the column of ends has the index of the router at which the row ends.
  pub any_to-ends : (rows : List Link) (ends : List ℕ) → AreEndsOf rows routers ends → (at : ℕ) → at < length routers → list_any (λ e. nat_eq e at) ends ≡ any_to rows (slice_index routers at)
  any_to-ends rows ends are at h =
      any_agree (λ e. nat_eq e at) (λ e. nat_eq (slice_index routers e) (slice_index routers at)) ends (λ k d w. sym (one_place (get_or ends k d) at (are.within k d w) h))
      ∙ sym (any-map (λ n. nat_eq n (slice_index routers at)) (λ e. slice_index routers e) ends)
      ∙ ap (list_any (λ n. nat_eq n (slice_index routers at))) are.each
      ∙ any-map (λ n. nat_eq n (slice_index routers at)) (λ (l : Link). l.to) rows
