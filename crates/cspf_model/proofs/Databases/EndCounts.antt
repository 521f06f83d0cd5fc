-- The number of links and the number of routers of a database that is made from a list of links,
-- called rows.
use Rattle.std.specs.Bool.{OnTrue, OnFalse}
use Rattle.std.proofs.lemmas.Grind.{common_steps}
use mathlib.Core.Bool.{true≢false}
use Rattle.std.proofs.lemmas.List.{nil_from_length, get_or_default, take_more}
use Rattle.std.proofs.Common.{◌≡◌, ℕ, zero, suc, All, Contains, nat_eq, take, ◌+◌, ◌-◌, ◌<◌, ◌≤◌, ◌||◌, Bool, true, false, cond, not, Some, None, is_some, List, [], ◌∷◌, ◌++◌, length, map, refl, sym, ap, ◌∙◌, arith, inl, inr, ◌&&◌, IsTrue, ◌↔◌, rules}
use Rattle.std.specs.Ordering.{nat_cmp, eq_by_cmp, is_eq}
use Rattle.std.specs.declared.cmp.Ordering.TheVariants.{Less, Equal, Greater}
use Rattle.std.specs.Cmp.{nat_cmp_total, tied_itself, Equal-is}
use Rattle.std.specs.List.{IsDistinct, list_any, HoldsAt, slice_index_or, Any}
use Rattle.std.specs.FinMap as map
use Rattle.std.specs.FinMap.Entries.{by_order, put}
use Rattle.std.specs.FinSet as set
use Rattle.std.proofs.lemmas.List.Elements.{All-contains, All-weaker, filter_map-append}
use Rattle.std.proofs.lemmas.List.Folds.{list_any-append, list_any-from_Any}
use Rattle.cspf_model.specs.declared.link.Link.{Link}
use Rattle.cspf_model.specs.declared.batch.Change.{Change}
use Rattle.cspf_model.specs.declared.batch.Change.TheVariants.{Put}
use Rattle.cspf_model.specs.Database.{Key, key_of, key_cmp, link_count, router_count, ends_of, EndsAt, HaveOwnKeys}
use Rattle.cspf_model.specs.Changes.{link_left}
use Rattle.cspf_model.specs.Lemmas.GoneRouters.{is_at, HasGone}
use Rattle.cspf_model.specs.Lemmas.LinkChanges.{all_relinked}
use Rattle.cspf_model.specs.Lemmas.LinkRows.{database_of}
use Rattle.cspf_model.specs.Lemmas.RowsLeft.{is_untouched, rows_untouched, links_put}
use Rattle.cspf_model.specs.Lemmas.CountedEnds.{with_ends, AnyEndsAt, BringsAtMost}
use Rattle.cspf_model.specs.Refusals.{AreOnceEach}
use Rattle.cspf_model.proofs.Databases.Keys.{keys_total}
use Rattle.cspf_model.proofs.Databases.LinksOfRows.{link_at-database_of}
use Rattle.cspf_model.proofs.Databases.OneChange.{find-behind}
use Rattle.cspf_model.proofs.Databases.ChangedRows.{rows_after, database-rows_after, apart-rows_after}

-- If the links in `rows` have different keys, the database that is made from them has as many links
-- as `rows`.
pub link_count-database_of : (rows : List Link) → HaveOwnKeys rows
    → link_count (database_of rows) ≡ length rows
unfolding IsDistinct
link_count-database_of [] apart = map.len-empty key_cmp Link
link_count-database_of (l ∷ rows) apart =
    map.len-insert keys_total (database_of rows).links (key_of l) l
    ∙ ap (λ o. cond (is_some o) (link_count (database_of rows)) (link_count (database_of rows) + 1))
    (link_at-database_of rows (key_of l) ∙ find-behind l rows apart)
    ∙ ap (λ n. n + 1) (link_count-database_of rows apart.1) ∙ omega arith

-- The disjunction of tests is associative.
or_assoc : (a b c : Bool) → (a || (b || c)) ≡ ((a || b) || c)
or_assoc a b c = search rules

-- The disjunction of three tests stays the same if the first two tests are swapped.
or_swap : (a b c : Bool) → (a || (b || c)) ≡ (b || (a || c))
or_swap a b c = search rules

-- Some router in `ends_of links` passes the test `p` exactly if some link begins or ends at a
-- router that passes `p`.
pub any-ends_of : (p : ℕ → Bool) (links : List Link)
    → list_any p (ends_of links) ≡ list_any (λ l. p l.from || p l.to) links
any-ends_of p [] = refl
any-ends_of p (l ∷ links) =
    ap (λ b. p l.from || (p l.to || b)) (any-ends_of p links) ∙ or_assoc (p l.from) (p l.to) _

-- After an entry with a new key is added, some link passes the test `p` exactly if the new link or
-- an old link passes `p`.
any-put : (p : Link → Bool) (k : Key) (v : Link) (es : List (Key × Link))
    → map.find key_cmp k es ≡ None
    → list_any p (map (λ e. e.1) (put key_cmp k v es)) ≡ (p v || list_any p (map (λ e. e.1) es))
any-put p k v [] none = refl
any-put p k v (e ∷ es) none =
    elim (key_cmp k e.0) as (λ r. cond (is_eq r) (Some e.1) (map.find key_cmp k es) ≡ None
    → list_any p (map (λ e. e.1) (by_order r ((k, v) ∷ e ∷ es) ((e.0, v) ∷ es) (e ∷ put key_cmp k v es))) ≡ (p v || (p e.1 || list_any p (map (λ e. e.1) es)))) [
      | Less ↦ λ _. refl
      | Equal ↦ λ there. absurd (cc)
      | Greater ↦ λ rest. ap (λ b. p e.1 || b) (any-put p k v es rest) ∙ or_swap (p e.1) (p v) _
    ] none

-- Suppose that the links in `rows` have different keys. Some link of the database made from them
-- passes the test `p` exactly if some link in `rows` passes `p`.
any-values : (p : Link → Bool) (rows : List Link) → HaveOwnKeys rows
    → list_any p (map.values (database_of rows).links) ≡ list_any p rows
unfolding IsDistinct
any-values p [] apart = ap (λ es. list_any p (map (λ e. e.1) es)) no_entries
  where
    no_entries : map.entries (map.empty {K = Key} {X = Link} {R = key_cmp}) ≡ []
    no_entries = nil_from_length _ (sym (map.len-entries _) ∙ map.len-empty key_cmp Link)
any-values p (l ∷ rows) apart =
    ap (λ es. list_any p (map (λ e. e.1) es))
    (map.entries-insert keys_total (database_of rows).links (key_of l) l)
    ∙ any-put p (key_of l) l (map.entries (database_of rows).links)
    (sym (map.get-entries (database_of rows).links (key_of l)) ∙ link_at-database_of rows (key_of l) ∙ find-behind l rows apart)
    ∙ ap (λ b. p l || b) (any-values p rows apart.1)

-- Suppose that the links in `rows` have different keys. Then the set of the routers at which these
-- links begin or end has as many members as the database made from them has routers.
pub router_count-database_of : (rows : List Link) → HaveOwnKeys rows
    → router_count (database_of rows) ≡ set.len (set.from_list {R = nat_cmp} (ends_of rows))
router_count-database_of rows apart =
    ap set.len (set.same_set nat_cmp_total set.nat_cmp-IsAntisymmetric _ _ (λ q.
    set.contains-from_list nat_cmp_total _ q ∙ any-ends_of (eq_by_cmp nat_cmp q) _
    ∙ any-values _ rows apart ∙ sym (any-ends_of (eq_by_cmp nat_cmp q) rows)
    ∙ sym (set.contains-from_list nat_cmp_total _ q)))

-- The disjunction of a test and `false` is the test itself.
or_false : (a : Bool) → a ≡ (a || false)
or_false a = search rules

-- `(b or (a or s)) or rest` has the same value as `s or (a or (b or rest))`.
turn : (a b s rest : Bool) → ((b || (a || s)) || rest) ≡ (s || (a || (b || rest)))
turn a b s rest = search rules

-- After the routers of some links are added to a set, the set has exactly its earlier members and
-- these routers.
pub contains-with_ends : (s : set.FinSet nat_cmp) (links : List Link) (q : ℕ)
    → set.contains (with_ends s links) q ≡ (set.contains s q || list_any (eq_by_cmp nat_cmp q) (ends_of links))
contains-with_ends s [] q = or_false _
contains-with_ends s (l ∷ links) q =
    contains-with_ends (set.insert (set.insert s l.from) l.to) links q
    ∙ ap (λ b. b || list_any (eq_by_cmp nat_cmp q) (ends_of links))
    (set.contains-insert nat_cmp_total (set.insert s l.from) l.to q ∙ ap (λ b. eq_by_cmp nat_cmp q l.to || b) (set.contains-insert nat_cmp_total s l.from q))
    ∙ turn (eq_by_cmp nat_cmp q l.from) (eq_by_cmp nat_cmp q l.to) (set.contains s q) _

-- If the routers of some links are added to the empty set one by one, the result is the set of
-- these routers.
with_ends-empty : (links : List Link) → with_ends set.empty links ≡ set.from_list (ends_of links)
with_ends-empty links =
    set.same_set nat_cmp_total set.nat_cmp-IsAntisymmetric _ _ (λ q.
    contains-with_ends set.empty links q
    ∙ ap (λ b. b || list_any (eq_by_cmp nat_cmp q) (ends_of links)) (set.contains-empty nat_cmp q)
    ∙ sym (set.contains-from_list nat_cmp_total _ q))

-- Adding the routers of two lists of links to a set, list by list, gives the same set as adding the
-- routers of the concatenated list.
pub with_ends-append : (s : set.FinSet nat_cmp) (xs ys : List Link)
    → with_ends (with_ends s xs) ys ≡ with_ends s (xs ++ ys)
with_ends-append s [] ys = refl
with_ends-append s (x ∷ xs) ys = with_ends-append (set.insert (set.insert s x.from) x.to) xs ys

-- Adding a router makes no set smaller.
pub len-insert-le : (s : set.FinSet nat_cmp) (k : ℕ) → set.len s ≤ set.len (set.insert s k)
len-insert-le s k =
    let n = set.len-insert nat_cmp_total s k in rw n (no_less (set.contains s k) (set.len s))
  where
    no_less : (b : Bool) (n : ℕ) → n ≤ cond b n (n + 1)
    no_less true n = omega arith
    no_less false n = omega arith

-- Adding the routers of links makes no set smaller.
pub len-with_ends-le : (s : set.FinSet nat_cmp) (links : List Link)
    → set.len s ≤ set.len (with_ends s links)
len-with_ends-le s [] = omega arith
len-with_ends-le s (l ∷ links) =
    omega
    (arith, len-with_ends-le (set.insert (set.insert s l.from) l.to) links, len-insert-le (set.insert s l.from) l.to, len-insert-le s l.from)

-- If the second of two tests passes, their disjunction is true.
pub or_right : (a b : Bool) → b ≡ true → (a || b) ≡ true
or_right a b e = search rules

-- If a number is removed from a set, each member that differs from this number stays a member.
stays_inside : (tie found there : Bool) → (tie ≡ true → found ≡ false) → found ≡ true → there ≡ true
    → (not tie && there) ≡ true
stays_inside tie found there apart is inside = grind (arith, common_steps)

-- If one of a set's members is removed, the set has one member less.
len-without : (t : set.FinSet nat_cmp) (x : ℕ) → set.contains t x ≡ true
    → set.len (set.remove t x) + 1 ≡ set.len t
len-without t x there =
    let shorter : set.len (set.remove t x) ≡ set.len t - 1 = set.len-remove nat_cmp_total t x ∙ ap (λ b. cond b (set.len t - 1) (set.len t)) there in
    let some : set.len t ≡ 0 → ⊥ = λ none. true≢false (sym there ∙ ap (λ s. set.contains s x) (set.empty_of_len t none) ∙ set.contains-empty nat_cmp x) in
    omega (arith, shorter, some)

-- If all items of a list are members of the set `t`, the set of the list's items has at most as
-- many members as `t`.
len-within : (xs : List ℕ) (t : set.FinSet nat_cmp)
    → ((q : ℕ) → list_any (eq_by_cmp nat_cmp q) xs ≡ true → set.contains t q ≡ true)
    → set.len (set.from_list {R = nat_cmp} xs) ≤ set.len t
len-within [] t inside = rw (set.len-empty nat_cmp) (omega arith)
len-within (x ∷ xs) t inside =
    rw (set.len-insert nat_cmp_total (set.from_list {R = nat_cmp} xs) x)
    (elim (set.contains (set.from_list {R = nat_cmp} xs) x) as (λ b. set.contains (set.from_list {R = nat_cmp} xs) x ≡ b → cond b (set.len (set.from_list {R = nat_cmp} xs)) (set.len (set.from_list {R = nat_cmp} xs) + 1) ≤ set.len t) [
      | true ↦ λ _. len-within xs t (λ q is. inside q (or_right (eq_by_cmp nat_cmp q x) _ is))
      | false ↦ λ new. omega (
        arith,
        len-without t x
            (inside x (ap (λ b. b || list_any (eq_by_cmp nat_cmp x) xs) (ap is_eq (tied_itself nat_cmp_total x)))),
        len-within xs (set.remove t x) (λ q is.
            set.contains-remove nat_cmp_total t x q
            ∙ stays_inside (eq_by_cmp nat_cmp q x) (set.contains (set.from_list {R = nat_cmp} xs) q)
            (set.contains t q)
            (λ tie. sym (set.contains_tied nat_cmp_total (set.from_list {R = nat_cmp} xs) q x ((Equal-is (nat_cmp q x)).0 tie)) ∙ new)
            (set.contains-from_list nat_cmp_total xs q ∙ is)
            (inside q (or_right (eq_by_cmp nat_cmp q x) _ is))),
      )
    ] refl)

-- If some link in `rows_untouched rows cs` passes the test `p`, some link in `rows` passes `p`.
any_left : (p : Link → Bool) (rows : List Link) (cs : List Change)
    → list_any p (rows_untouched rows cs) ≡ true → list_any p rows ≡ true
any_left p [] cs is = is
any_left p (l ∷ rows) cs is =
    elim (is_untouched cs l) as (λ b. list_any p (cond b (l ∷ rows_untouched rows cs) (rows_untouched rows cs)) ≡ true → list_any p (l ∷ rows) ≡ true) [
      | true ↦ λ some. or_either (p l) _ _ some (λ later. any_left p rows cs later)
      | false ↦ λ later. or_right (p l) _ (any_left p rows cs later)
    ] is
  where
    or_either : (a b c : Bool) → (a || b) ≡ true → (b ≡ true → c ≡ true) → (a || c) ≡ true
    or_either true b c e f = refl
    or_either false b c e f = f e

-- If some link in `rows` begins or ends at `router`, a number that compares as equal to `router` is
-- among the routers of these links.
pub known_end : (rows : List Link) (router q : ℕ) → AnyEndsAt rows router
    → eq_by_cmp nat_cmp q router ≡ true
    → list_any (λ l. eq_by_cmp nat_cmp q l.from || eq_by_cmp nat_cmp q l.to) rows ≡ true
known_end rows router q (at, within, ends) tie =
    list_any-from_Any (λ l. eq_by_cmp nat_cmp q l.from || eq_by_cmp nat_cmp q l.to) rows
    (found rows at within ends)
  where
    one_end : (l : Link) → EndsAt router l
        → (eq_by_cmp nat_cmp q l.from || eq_by_cmp nat_cmp q l.to) ≡ true
    one_end l (inl from) =
        ap (λ b. b || eq_by_cmp nat_cmp q l.to) (ap (eq_by_cmp nat_cmp q) from ∙ tie)
    one_end l (inr to) = or_right (eq_by_cmp nat_cmp q l.from) _ (ap (eq_by_cmp nat_cmp q) to ∙ tie)

    found : (rows : List Link) (at : ℕ) → at < length rows → HoldsAt (EndsAt router) rows at
        → Any (λ l. (eq_by_cmp nat_cmp q l.from || eq_by_cmp nat_cmp q l.to) ≡ true) rows
    found [] at within ends = absurd (omega arith)
    found (l ∷ rows) at within ends =
        (at, slice_index_or (l ∷ rows) at l, within, get_or_default (l ∷ rows) at (slice_index_or (l ∷ rows) at l) l within, one_end (slice_index_or (l ∷ rows) at l) (ends l))

-- To prove `P` from a true disjunction, prove `P` from each of its two tests.
or_split : {P : Type 0} (a b : Bool) → (a || b) ≡ true → (a ≡ true → P) → (b ≡ true → P) → P
or_split a b e f g = search rules

-- In this part, the links in `rows` have different keys, the changes have different keys, and the
-- changes act on the database that is made from `rows`.
module _ (rows : List Link) (cs : List Change) (apart : HaveOwnKeys rows) (once : AreOnceEach cs) where
  -- After the changes, the number of the database's routers is the size of a set: the routers of
  -- the untouched links, and of the links that the changes put.
  pub router_count-after : router_count (all_relinked (database_of rows) cs) ≡ set.len (with_ends (with_ends set.empty (rows_untouched rows cs)) (links_put cs))
  router_count-after =
      ap router_count (sym (database-rows_after rows cs once))
      ∙ router_count-database_of (rows_after rows cs) (apart-rows_after rows cs apart once)
      ∙ ap set.len
      (sym (with_ends-append set.empty (rows_untouched rows cs) (links_put cs) ∙ with_ends-empty (rows_after rows cs)))

  -- If a link begins or ends at a router after the changes, a link in `rows` or a link that the
  -- changes put begins or ends at this router.
  in_grown : (q : ℕ) → list_any (eq_by_cmp nat_cmp q) (ends_of (rows_after rows cs)) ≡ true → set.contains (with_ends (set.from_list (ends_of rows)) (links_put cs)) q ≡ true
  in_grown q is =
      let all : set.FinSet nat_cmp = set.from_list (ends_of rows) in
      contains-with_ends all (links_put cs) q
      ∙ or_split (list_any (λ l. eq_by_cmp nat_cmp q l.from || eq_by_cmp nat_cmp q l.to) (rows_untouched rows cs)) (list_any (λ l. eq_by_cmp nat_cmp q l.from || eq_by_cmp nat_cmp q l.to) (links_put cs))
      (sym (list_any-append _ (rows_untouched rows cs) (links_put cs)) ∙ sym (any-ends_of (eq_by_cmp nat_cmp q) (rows_after rows cs)) ∙ is)
      (λ left. ap (λ b. b || list_any (eq_by_cmp nat_cmp q) (ends_of (links_put cs))) (set.contains-from_list nat_cmp_total (ends_of rows) q ∙ any-ends_of (eq_by_cmp nat_cmp q) rows ∙ any_left _ rows cs left))
      (λ put. or_right (set.contains all q) _ (any-ends_of (eq_by_cmp nat_cmp q) (links_put cs) ∙ put))

  -- If the links that the changes put have at most `most` new routers, the database gains at most
  -- `most` routers.
  pub router_count-brought : (routers : List ℕ) (most : ℕ) → All (λ r. set.contains (set.from_list {R = nat_cmp} (ends_of rows)) r ≡ true) routers → BringsAtMost routers cs most
      → router_count (all_relinked (database_of rows) cs) ≤ router_count (database_of rows) + most
  router_count-brought routers most inside brings =
      let all : set.FinSet nat_cmp = set.from_list (ends_of rows) in
      omega
      (arith, len-within (ends_of (rows_after rows cs)) (with_ends all (links_put cs)) in_grown, brings all inside, ap router_count (database-rows_after rows cs once), router_count-database_of (rows_after rows cs) (apart-rows_after rows cs apart once), router_count-database_of rows apart)

  -- Suppose that the links that the changes put have at most `most` new routers, and that some
  -- router of the database has no links after the changes. Then the database gains at most `most -
  -- 1` routers.
  pub router_count-gone : (routers : List ℕ) (most : ℕ) → All (λ r. set.contains (set.from_list {R = nat_cmp} (ends_of rows)) r ≡ true) routers → BringsAtMost routers cs most
      → HasGone rows routers cs → router_count (all_relinked (database_of rows) cs) + 1 ≤ router_count (database_of rows) + most
  router_count-gone routers most inside brings (g, known, gone) =
      let ends : List ℕ = ends_of (rows_after rows cs) in
      let all : set.FinSet nat_cmp = set.from_list (ends_of rows) in
      let grown : set.FinSet nat_cmp = with_ends all (links_put cs) in
      let absent : set.contains (set.from_list {R = nat_cmp} ends) g ≡ false =
      set.contains-from_list_nat ends g ∙ any-ends_of (λ y. nat_eq y g) (rows_after rows cs) ∙ list_any-append (is_at g) (rows_untouched rows cs) (links_put cs) ∙ ap (λ b. b || list_any (is_at g) (links_put cs)) gone.left ∙ gone.put in
      let there : set.contains grown g ≡ true =
      contains-with_ends all (links_put cs) g ∙ ap (λ b. b || list_any (eq_by_cmp nat_cmp g) (ends_of (links_put cs))) (All-contains (λ r. set.contains all r ≡ true) routers g inside known) in
      let within : set.len (set.from_list {R = nat_cmp} ends) ≤ set.len (set.remove grown g) =
      len-within ends (set.remove grown g) (λ q is.
      set.contains-remove nat_cmp_total grown g q
      ∙ stays_inside (eq_by_cmp nat_cmp q g) (set.contains (set.from_list {R = nat_cmp} ends) q) (set.contains grown q)
      (λ tie. sym (set.contains_tied nat_cmp_total (set.from_list {R = nat_cmp} ends) q g ((Equal-is (nat_cmp q g)).0 tie)) ∙ absent)
      (set.contains-from_list nat_cmp_total ends q ∙ is) (in_grown q is)) in
      omega
      (arith, within, len-without grown g there, brings all inside, ap router_count (database-rows_after rows cs once), router_count-database_of (rows_after rows cs) (apart-rows_after rows cs apart once), router_count-database_of rows apart)

  -- The set `seed` has each router at which a link in `rows` begins or ends. After the changes, the
  -- database has at most as many routers as `seed` has after the routers of the links that the
  -- changes put are added to it.
  pub router_count-within : (seed : set.FinSet nat_cmp) → ((q : ℕ) → set.contains (set.from_list {R = nat_cmp} (ends_of rows)) q ≡ true → set.contains seed q ≡ true)
      → router_count (all_relinked (database_of rows) cs) ≤ set.len (with_ends seed (links_put cs))
  router_count-within seed inside =
      let all : set.FinSet nat_cmp = set.from_list (ends_of rows) in
      let within : set.len (set.from_list {R = nat_cmp} (ends_of (rows_after rows cs))) ≤ set.len (with_ends seed (links_put cs)) =
      len-within (ends_of (rows_after rows cs)) (with_ends seed (links_put cs)) (λ q is.
      contains-with_ends seed (links_put cs) q
      ∙ or_split (set.contains all q) (list_any (eq_by_cmp nat_cmp q) (ends_of (links_put cs))) (sym (contains-with_ends all (links_put cs) q) ∙ in_grown q is)
      (λ there. ap (λ b. b || list_any (eq_by_cmp nat_cmp q) (ends_of (links_put cs))) (inside q there))
      (λ put. or_right (set.contains seed q) _ put)) in
      omega
      (arith, within, ap router_count (database-rows_after rows cs once), router_count-database_of (rows_after rows cs) (apart-rows_after rows cs apart once))

-- Adding a router makes a set larger by at most one.
len-insert-most : (s : set.FinSet nat_cmp) (k : ℕ) → set.len (set.insert s k) ≤ set.len s + 1
len-insert-most s k =
    let n = set.len-insert nat_cmp_total s k in rw n (one_more (set.contains s k) (set.len s))
  where
    one_more : (b : Bool) (n : ℕ) → cond b n (n + 1) ≤ n + 1
    one_more true n = omega arith
    one_more false n = omega arith

-- Adding the router `k` to a set makes the set larger by at most `most`. If `most` is 0, the set
-- has to have `k` already.
pub one_end : (s : set.FinSet nat_cmp) (k most : ℕ) → (most ≡ 0 → set.contains s k ≡ true) → set.len (set.insert s k) ≤ set.len s + most
one_end s k zero there = omega (arith, set.len-insert nat_cmp_total s k ∙ ap (λ b. cond b (set.len s) (set.len s + 1)) (there refl))
one_end s k (suc most) there = omega (arith, len-insert-most s k)

-- A `Put` change of the link `l` brings at most `m + n` routers that aren't in `routers`. `m` may
-- be 0 if `l` begins at a router in `routers`, and `n` may be 0 if `l` ends at such a router.
pub brings_put : (routers : List ℕ) (l : Link) (m n : ℕ) → (m ≡ 0 → Contains routers l.from) → (n ≡ 0 → Contains routers l.to) → BringsAtMost routers (Put l ∷ []) (m + n)
brings_put routers l m n from to s inside =
    let there : (r : ℕ) → Contains routers r → set.contains s r ≡ true = λ r. All-contains (λ q. set.contains s q ≡ true) routers r inside in
    omega
    (arith, one_end s l.from m (λ e. there l.from (from e)), one_end (set.insert s l.from) l.to n (λ e. set.contains-insert nat_cmp_total s l.from l.to ∙ or_right (eq_by_cmp nat_cmp l.to l.from) _ (there l.to (to e))))

-- The disjunction of three tests stays the same if the last two tests are swapped.
turn_last : (a b e : Bool) → ((a || b) || e) ≡ ((a || e) || b)
turn_last a b e = search rules

-- If the routers of two lists of links are added to a set, the order of the two lists doesn't
-- matter.
with_ends-turned : (s : set.FinSet nat_cmp) (xs ys : List Link) → with_ends (with_ends s xs) ys ≡ with_ends (with_ends s ys) xs
with_ends-turned s xs ys =
    set.same_set nat_cmp_total set.nat_cmp-IsAntisymmetric _ _ (λ q.
    contains-with_ends (with_ends s xs) ys q
    ∙ ap (λ b. b || list_any (eq_by_cmp nat_cmp q) (ends_of ys)) (contains-with_ends s xs q)
    ∙ turn_last (set.contains s q) _ _
    ∙ sym (contains-with_ends (with_ends s ys) xs q ∙ ap (λ b. b || list_any (eq_by_cmp nat_cmp q) (ends_of xs)) (contains-with_ends s ys q)))

-- This part counts the routers that the database has after the changes. To count them, the code
-- adds the routers of the links to a set.
module _ (rows : List Link) (cs : List Change) (apart : HaveOwnKeys rows) (once : AreOnceEach cs) where
  -- After the changes, the number of the database's routers is the size of a set: the routers of
  -- the links that the changes put, and of the untouched links.
  counted : router_count (all_relinked (database_of rows) cs) ≡ set.len (with_ends (with_ends set.empty (links_put cs)) (rows_untouched rows cs))
  counted = router_count-after rows cs apart once ∙ ap set.len (with_ends-turned set.empty (rows_untouched rows cs) (links_put cs))

  -- If the links that the changes put have more than 1,024 different routers, the database has more
  -- than 1,024 routers after the changes.
  pub many_put : 1024 < set.len (with_ends set.empty (links_put cs))
      → 1024 < router_count (all_relinked (database_of rows) cs)
  many_put many = omega (arith, many, len-with_ends-le (with_ends set.empty (links_put cs)) (rows_untouched rows cs), counted)

  -- The set `first` has the routers of the links that the changes put. The set `second` has, in
  -- addition, the routers of the untouched links. If the test `b` says whether `second` has at most
  -- 1,024 routers, `b` also says whether the database has at most 1,024 routers after the changes.
  pub tells_both : (b : Bool) (first second : set.FinSet nat_cmp)
      → first ≡ with_ends set.empty (links_put cs)
      → OnTrue b (second ≡ with_ends first (rows_untouched rows cs)) → OnTrue b (set.len second ≤ 1024)
      → OnFalse b (1024 < set.len (with_ends first (rows_untouched rows cs)))
      → IsTrue (not b) ↔ (1024 < router_count (all_relinked (database_of rows) cs))
  tells_both true first second put left few many =
      ((λ e. absurd (cc)), λ above. absurd (omega (arith, above, few, counted, ap set.len left, ap (λ s. set.len (with_ends s (rows_untouched rows cs))) put)))
  tells_both false first second put left few many =
      ((λ _. omega (arith, many, counted, ap (λ s. set.len (with_ends s (rows_untouched rows cs))) put)), λ _. refl)
