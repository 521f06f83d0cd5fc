-- A database is made from a list of links, called rows. After changes, the database has the rows
-- whose keys no change has, and the links that the changes put.
use Rattle.std.proofs.Common.{◌≡◌, zero, suc, ◌||◌, Bool, true, false, cond, not, Option, Some, None, List, [], ◌∷◌, ◌++◌, Contains, map, refl, sym, ap, ◌∙◌, arith, rules}
use Rattle.std.proofs.lemmas.Grind.{common_steps}
use Rattle.std.specs.Ordering.{eq_by_cmp}
use Rattle.std.specs.List.{IsDistinct, AllByRecursion}
use Rattle.std.specs.List.Sorted.{IsPermutation}
use Rattle.std.specs.FinMap.{find}
use Rattle.std.proofs.lemmas.Cmp.{eq_by_cmp_equiv}
use Rattle.std.proofs.lemmas.Map.Keys.{IsDistinct-IsPermutation}
use Rattle.std.proofs.lemmas.List.Sorted.{IsPermutation-sym, IsPermutation-map, Contains-permutation, list_any-IsPermutation}
use Rattle.cspf_model.specs.declared.link.Link.{Link}
use Rattle.cspf_model.specs.declared.batch.Change.{Change}
use Rattle.cspf_model.specs.declared.batch.Change.TheVariants.{Put, Remove, Node}
use Rattle.cspf_model.specs.Database.{Database, Key, key_of, key_cmp, link_at, HaveOwnKeys}
use Rattle.cspf_model.specs.Changes.{ChangeKey, change_key_cmp, link_key, key_changed, link_left}
use Rattle.cspf_model.specs.Lemmas.LinkChanges.{relinked, all_relinked}
use Rattle.cspf_model.specs.Lemmas.LinkRows.{entry_of, database_of}
use Rattle.cspf_model.specs.Lemmas.RepeatedKeys.{is_changed}
use Rattle.cspf_model.specs.Lemmas.RowsLeft.{is_untouched, rows_untouched, links_put}
use Rattle.cspf_model.specs.Refusals.{AreOnceEach}
use Rattle.cspf_model.proofs.Databases.Keys.{keys_same, change_keys_total, link_apart}
use Rattle.cspf_model.proofs.Databases.LastChanges.{link_at-after_change}
use Rattle.cspf_model.proofs.Databases.LinksOfRows.{link_at-database_of}
use Rattle.cspf_model.proofs.Databases.OneChange.{same_database, same_options, found_too}

-- The first link with this key in the list, or `None` if no link has this key.
at_key : List Link → Key → Option Link
at_key links k = find key_cmp k (map entry_of links)

-- The links in `rows` whose keys no change has, followed by the links that the changes put.
abbrev pub rows_after : List Link → List Change → List Link
rows_after rows changes = rows_untouched rows changes ++ links_put changes

-- If the keys `j` and `k` compare as equal, some change has the key `j` exactly if some change has
-- the key `k`.
changed_alike : (cs : List Change) (j k : Key) → eq_by_cmp key_cmp j k ≡ true
    → is_changed cs (link_key j) ≡ is_changed cs (link_key k)
changed_alike cs j k tie = ap (λ q. is_changed cs (link_key q)) (keys_same j k tie)

-- A search for a key finds nothing if the first link doesn't have the key and a search of the other
-- links finds nothing.
none_found : (b : Bool) (x : Link) (o : Option Link) → b ≡ false → o ≡ None
    → cond b (Some x) o ≡ None
none_found b x o off none = search rules

-- If the disjunction of two tests is false, the first test is false.
or_first : (a b : Bool) → (a || b) ≡ false → a ≡ false
or_first a b e = search rules

-- If the disjunction of two tests is false, the second test is false.
or_second : (a b : Bool) → (a || b) ≡ false → b ≡ false
or_second a b e = search rules

-- If no change has the key `k`, the changes put no link with this key.
not_put : (cs : List Change) (k : Key) → is_changed cs (link_key k) ≡ false → at_key (links_put cs) k ≡ None
unfolding at_key
not_put [] k off = refl
not_put (Put l ∷ cs) k off =
    none_found (eq_by_cmp key_cmp k (key_of l)) l _ (or_first _ _ off)
    (not_put cs k (or_second _ _ off))
not_put (Remove from local ∷ cs) k off = not_put cs k (or_second _ _ off)
not_put (Node router transit ∷ cs) k off = not_put cs k (or_second _ _ off)

-- At a key that some change has, `rows_untouched` has no link. At any other key, `rows_untouched`
-- has the same link as `rows`.
at_left : (rows : List Link) (cs : List Change) (k : Key)
    → at_key (rows_untouched rows cs) k ≡ cond (is_changed cs (link_key k)) None (at_key rows k)
unfolding at_key
at_left [] cs k =
    elim (is_changed cs (link_key k)) as (λ b. ◌≡◌ {A = Option Link} None (cond b None None)) [ true ↦ refl | false ↦ refl ]
at_left (l ∷ rows) cs k =
    elim (eq_by_cmp key_cmp k (key_of l)) as (λ t. eq_by_cmp key_cmp k (key_of l) ≡ t → at_key (rows_untouched (l ∷ rows) cs) k ≡ cond (is_changed cs (link_key k)) None (cond t (Some l) (at_key rows k))) [
      | true ↦ λ tie. elim (is_changed cs (link_key k)) as (λ b. is_changed cs (link_key k) ≡ b → at_key (rows_untouched (l ∷ rows) cs) k ≡ cond b None (Some l)) [
        | true ↦ λ on. dropped (sym (changed_alike cs k (key_of l) tie) ∙ on) ∙ at_left rows cs k
            ∙ ap (λ b. cond b None (at_key rows k)) on
        | false ↦ λ off. stayed (sym (changed_alike cs k (key_of l) tie) ∙ off)
            ∙ ap (λ b. cond b (Some l) (at_key (rows_untouched rows cs) k)) tie
      ] refl
      | false ↦ λ apart. elim (is_changed cs (link_key (key_of l))) as (λ b. is_changed cs (link_key (key_of l)) ≡ b → at_key (rows_untouched (l ∷ rows) cs) k ≡ cond (is_changed cs (link_key k)) None (at_key rows k)) [
        | true ↦ λ on. dropped on ∙ at_left rows cs k
        | false ↦ λ off. stayed off ∙ ap (λ b. cond b (Some l) (at_key (rows_untouched rows cs) k)) apart
            ∙ at_left rows cs k
      ] refl
    ] refl
  where
    dropped : is_changed cs (link_key (key_of l)) ≡ true
        → at_key (rows_untouched (l ∷ rows) cs) k ≡ at_key (rows_untouched rows cs) k
    dropped on = ap (λ b. at_key (cond (not b) (l ∷ rows_untouched rows cs) (rows_untouched rows cs)) k) on

    stayed : is_changed cs (link_key (key_of l)) ≡ false
        → at_key (rows_untouched (l ∷ rows) cs) k ≡ at_key (l ∷ rows_untouched rows cs) k
    stayed off = ap (λ b. at_key (cond (not b) (l ∷ rows_untouched rows cs) (rows_untouched rows cs)) k) off

-- The first option if it has a value, and otherwise the second option.
first_of : Option Link → Option Link → Option Link
first_of None p = p
first_of (Some x) p = Some x

-- In the concatenation of two lists of links, a search for the key `k` finds the link that it finds
-- in the first list. If it finds none there, it finds what it finds in the second list.
at_both : (xs ys : List Link) (k : Key) → at_key (xs ++ ys) k ≡ first_of (at_key xs k) (at_key ys k)
unfolding at_key first_of
at_both [] ys k = refl
at_both (x ∷ xs) ys k =
    elim (eq_by_cmp key_cmp k (key_of x)) as (λ b. cond b (Some x) (at_key (xs ++ ys) k) ≡ first_of (cond b (Some x) (at_key xs k)) (at_key ys k)) [
      | true ↦ refl
      | false ↦ at_both xs ys k
    ]

-- `b` says whether some change has a key. If some change has it, the link at this key is `put`.
-- Otherwise the link at this key is `row`.
chosen : (b : Bool) (row put : Option Link) → (b ≡ false → put ≡ None)
    → first_of (cond b None row) put ≡ cond b put row
unfolding first_of
chosen false None put none = none refl
chosen b row put none = refl

-- If some change has the key `k`, `rows_after` has at `k` the link that the changes put, or no link
-- if they put none. Otherwise `rows_after` has at `k` the same link as `rows`.
at_after : (rows : List Link) (cs : List Change) (k : Key)
    → at_key (rows_after rows cs) k ≡ cond (is_changed cs (link_key k)) (at_key (links_put cs) k) (at_key rows k)
at_after rows cs k = search (rules, at_both, at_key, at_left, chosen, first_of, is_changed, links_put, not_put)

-- If all changes of a list have different keys, no later change has the key of the first change.
not_again : (c : Change) (cs : List Change) → AreOnceEach (c ∷ cs)
    → is_changed cs (key_changed c) ≡ false
unfolding IsDistinct
not_again c cs once = none_on (key_changed c) cs once.0
  where
    none_on : (k : ChangeKey) (cs : List Change)
        → AllByRecursion (λ y. eq_by_cmp change_key_cmp k y ≡ false) (map key_changed cs)
        → is_changed cs k ≡ false
    none_on k [] all = refl
    none_on k (c ∷ cs) all = ap (λ b. b || is_changed cs k) all.0 ∙ none_on k cs all.1

-- After a change with the key `k`, the database has at `k` the link that the change puts, or no
-- link if the change is a removal. After a change with another key, the database has the same link
-- at `k` as before.
pub link_at-relinked : (d : Database) (c : Change) (k : Key)
    → link_at (relinked d c) k ≡ cond (eq_by_cmp change_key_cmp (link_key k) (key_changed c)) (link_left c) (link_at d k)
link_at-relinked d (Put l) k = link_at-after_change d (Put l) k
link_at-relinked d (Remove from local) k = link_at-after_change d (Remove from local) k
link_at-relinked d (Node router transit) k = link_at-after_change d (Node router transit) k

-- Making the changes of two concatenated lists gives the same database as making the changes of the
-- first list, and then the changes of the second list.
pub all_relinked-append : (d : Database) (bs cs : List Change)
    → all_relinked d (bs ++ cs) ≡ all_relinked (all_relinked d bs) cs
all_relinked-append d [] cs = refl
all_relinked-append d (b ∷ bs) cs = all_relinked-append (relinked d b) bs cs

-- `all_relinked`, which makes only the changes to links, doesn't change which routers are marked as
-- without transit.
pub marks-all_relinked : (d : Database) (cs : List Change) → (all_relinked d cs).marks ≡ d.marks
marks-all_relinked d [] = refl
marks-all_relinked d (Put l ∷ cs) = marks-all_relinked (relinked d (Put l)) cs
marks-all_relinked d (Remove from local ∷ cs) = marks-all_relinked (relinked d (Remove from local)) cs
marks-all_relinked d (Node router transit ∷ cs) = marks-all_relinked d cs

-- Suppose that all changes have different keys. At a key that some change has, the database after
-- the changes has the link that this change puts, or no link for a removal. At any other key, the
-- database has the same link as before.
at_changed_by : (d : Database) (cs : List Change) (k : Key) → AreOnceEach cs
    → link_at (all_relinked d cs) k ≡ cond (is_changed cs (link_key k)) (at_key (links_put cs) k) (link_at d k)
unfolding IsDistinct at_key
at_changed_by d [] k once = refl
at_changed_by d (Put l ∷ cs) k once =
    at_changed_by (relinked d (Put l)) cs k once.1
    ∙ ap (cond (is_changed cs (link_key k)) (at_key (links_put cs) k)) (link_at-relinked d (Put l) k)
    ∙ put_first (eq_by_cmp key_cmp k (key_of l)) (is_changed cs (link_key k)) l (at_key (links_put cs) k)
    (link_at d k)
    (λ tie. changed_alike cs k (key_of l) tie ∙ not_again (Put l) cs once)
  where
    put_first : (t b : Bool) (l : Link) (put before : Option Link) → (t ≡ true → b ≡ false)
        → cond b put (cond t (Some l) before) ≡ cond (t || b) (cond t (Some l) put) before
    put_first true true l put before apart = absurd (cc (apart refl))
    put_first true false l put before apart = refl
    put_first false b l put before apart = refl
at_changed_by d (Remove from local ∷ cs) k once =
    at_changed_by (relinked d (Remove from local)) cs k once.1
    ∙ ap (cond (is_changed cs (link_key k)) (at_key (links_put cs) k))
    (link_at-relinked d (Remove from local) k)
    ∙ removed_first (eq_by_cmp key_cmp k (from, local)) (is_changed cs (link_key k)) (at_key (links_put cs) k)
    (link_at d k)
    (λ tie. changed_alike cs k (from, local) tie ∙ not_again (Remove from local) cs once)
    (not_put cs k)
  where
    removed_first : (t b : Bool) (put before : Option Link) → (t ≡ true → b ≡ false)
        → (b ≡ false → put ≡ None) → cond b put (cond t None before) ≡ cond (t || b) put before
    removed_first true true put before apart none = absurd (cc (apart refl))
    removed_first true false put before apart none = sym (none refl)
    removed_first false b put before apart none = refl
at_changed_by d (Node router transit ∷ cs) k once =
    at_changed_by d cs k once.1
    ∙ ap (λ b. cond (b || is_changed cs (link_key k)) (at_key (links_put cs) k) (link_at d k)) (sym (link_apart k router))

-- Suppose that all changes in `cs` have different keys. Then the links of `rows_after rows cs` make
-- the database that the changes to links make from the database of `rows`.
pub database-rows_after : (rows : List Link) (cs : List Change) → AreOnceEach cs
    → database_of (rows_after rows cs) ≡ all_relinked (database_of rows) cs
unfolding at_key
database-rows_after rows cs once =
    same_database _ _ (sym (marks-all_relinked (database_of rows) cs)) (λ k. link_at-database_of (rows_after rows cs) k ∙ at_after rows cs k
    ∙ ap (cond (is_changed cs (link_key k)) (at_key (links_put cs) k)) (sym (link_at-database_of rows k))
    ∙ sym (at_changed_by (database_of rows) cs k once))

-- If no link in `rows` has the key `k`, no link in `rows_untouched rows cs` has this key.
apart_left : (k : Key) (rows : List Link) (cs : List Change)
    → AllByRecursion (λ y. eq_by_cmp key_cmp k y ≡ false) (map key_of rows)
    → AllByRecursion (λ y. eq_by_cmp key_cmp k y ≡ false) (map key_of (rows_untouched rows cs))
apart_left k [] cs all = tt
apart_left k (l ∷ rows) cs all =
    elim (is_untouched cs l) as (λ b. AllByRecursion (λ y. eq_by_cmp key_cmp k y ≡ false) (map key_of (cond b (l ∷ rows_untouched rows cs) (rows_untouched rows cs)))) [
      | true ↦ (all.0, apart_left k rows cs all.1)
      | false ↦ apart_left k rows cs all.1
    ]

-- If no change has the key `k`, no link that the changes put has this key.
apart_put : (k : Key) (cs : List Change) → is_changed cs (link_key k) ≡ false
    → AllByRecursion (λ y. eq_by_cmp key_cmp k y ≡ false) (map key_of (links_put cs))
apart_put k [] off = tt
apart_put k (Put l ∷ cs) off = (or_first _ _ off, apart_put k cs (or_second _ _ off))
apart_put k (Remove from local ∷ cs) off = apart_put k cs (or_second _ _ off)
apart_put k (Node router transit ∷ cs) off = apart_put k cs (or_second _ _ off)

-- If all changes have different keys, the links that the changes put have different keys.
puts_apart : (cs : List Change) → AreOnceEach cs → HaveOwnKeys (links_put cs)
unfolding IsDistinct
puts_apart [] once = tt
puts_apart (Put l ∷ cs) once =
    (apart_put (key_of l) cs (not_again (Put l) cs once), puts_apart cs once.1)
puts_apart (Remove from local ∷ cs) once = puts_apart cs once.1
puts_apart (Node router transit ∷ cs) once = puts_apart cs once.1

-- If `P` holds of the keys of all links of two lists, `P` holds of the keys of all links of their
-- concatenation.
all_both : (P : Key → Type 0) (xs ys : List Link) → AllByRecursion P (map key_of xs)
    → AllByRecursion P (map key_of ys) → AllByRecursion P (map key_of (xs ++ ys))
all_both P xs ys all also = grind (arith, common_steps)

-- If the links in `rows` have different keys, and the changes have different keys, the links in
-- `rows_after rows cs` have different keys.
pub apart-rows_after : (rows : List Link) (cs : List Change) → HaveOwnKeys rows → AreOnceEach cs
    → HaveOwnKeys (rows_after rows cs)
unfolding IsDistinct
apart-rows_after [] cs apart once = puts_apart cs once
apart-rows_after (l ∷ rows) cs apart once =
    elim (is_changed cs (link_key (key_of l))) as (λ b. is_changed cs (link_key (key_of l)) ≡ b → HaveOwnKeys (cond (not b) (l ∷ rows_untouched rows cs) (rows_untouched rows cs) ++ links_put cs)) [
      | true ↦ λ on. apart-rows_after rows cs apart.1 once
      | false ↦ λ off. (all_both (λ y. eq_by_cmp key_cmp (key_of l) y ≡ false) (rows_untouched rows cs) (links_put cs) (apart_left (key_of l) rows cs apart.0) (apart_put (key_of l) cs off), apart-rows_after rows cs apart.1 once)
    ] refl

-- If a list contains the item `y`, the list still contains `y` after the item `x` is put in front.
behind : {X : Type 0} (x : X) (xs : List X) (y : X) → Contains xs y → Contains (x ∷ xs) y
behind x xs y has = (suc has.0, omega (arith, has.1), has.2)

-- Each link of `links_put` is put by one of the changes.
put_from : (cs : List Change) (l : Link) → Contains (links_put cs) l → Contains cs (Put l)
put_from [] l has = absurd (omega (arith, has.1))
put_from (Put m ∷ cs) l (zero, h, is) = (0, omega arith, ap Put is)
put_from (Put m ∷ cs) l (suc k, h, is) =
    behind (Put m) cs (Put l) (put_from cs l (k, omega (arith, h), is))
put_from (Remove from local ∷ cs) l has = behind (Remove from local) cs (Put l) (put_from cs l has)
put_from (Node router transit ∷ cs) l has =
    behind (Node router transit) cs (Put l) (put_from cs l has)

-- `links_put` has each link that one of the changes puts.
put_among : (cs : List Change) (l : Link) → Contains cs (Put l) → Contains (links_put cs) l
put_among [] l has = absurd (omega (arith, has.1))
put_among (Put m ∷ cs) l (zero, h, is) = (0, omega arith, same_link is)
  where
    same_link : Put m ≡ Put l → m ≡ l
    same_link e = cc
put_among (Put m ∷ cs) l (suc k, h, is) =
    behind m (links_put cs) l (put_among cs l (k, omega (arith, h), is))
put_among (Remove from local ∷ cs) l (suc k, h, is) = put_among cs l (k, omega (arith, h), is)
put_among (Node router transit ∷ cs) l (suc k, h, is) = put_among cs l (k, omega (arith, h), is)
put_among cs l has = absurd (cc)

-- In this part, `ys` are the changes `cs` in another order, and all changes have different keys.
module _ (cs ys : List Change) (moved : IsPermutation cs ys) (once : AreOnceEach cs) where
  -- The changes in the order of `ys` also have different keys.
  still_once : AreOnceEach ys
  still_once =
      IsDistinct-IsPermutation (eq_by_cmp change_key_cmp) (eq_by_cmp_equiv change_keys_total).symm (map key_changed cs) (map key_changed ys) (IsPermutation-map key_changed cs ys moved) once

  -- The changes in the order of `ys` put the same link at each key.
  same_put : (k : Key) → at_key (links_put ys) k ≡ at_key (links_put cs) k
  unfolding at_key
  same_put k =
      same_options _ _
      (found_too (links_put ys) (links_put cs) k (puts_apart cs once) (λ l has. put_among cs l (Contains-permutation ys cs (Put l) (IsPermutation-sym cs ys moved) (put_from ys l has))))
      (found_too (links_put cs) (links_put ys) k (puts_apart ys still_once) (λ l has. put_among ys l (Contains-permutation cs ys (Put l) moved (put_from cs l has))))

  pub all_relinked-permuted : (d : Database) → all_relinked d ys ≡ all_relinked d cs
  all_relinked-permuted d =
      same_database _ _ (marks-all_relinked d ys ∙ sym (marks-all_relinked d cs)) (λ k. at_changed_by d ys k still_once
      ∙ ap (λ b. cond b (at_key (links_put ys) k) (link_at d k)) (sym (list_any-IsPermutation (λ c. eq_by_cmp change_key_cmp (link_key k) (key_changed c)) cs ys moved))
      ∙ ap (λ o. cond (is_changed cs (link_key k)) o (link_at d k)) (same_put k)
      ∙ sym (at_changed_by d cs k once))
