-- Lemmas on how changes affect the marks, and on the number of marks after the changes. A mark says
-- that a router has no transit.
use mathlib.Core.Bool.{true≢false}
use Rattle.std.proofs.Common.{◌≡◌, ℕ, zero, suc, ◌+◌, ◌-◌, ◌<◌, ◌≤◌, ◌&&◌, ◌||◌, Bool, true, false, not, cond, List, [], ◌∷◌, length, map, get_or, refl, sym, ap, subst, ◌∙◌, arith, Result, Ok, Err, IfOk, IfErr, is_ok, Vec, rules}
use Rattle.std.specs.Ordering.{nat_cmp, eq_by_cmp}
use Rattle.std.specs.declared.cmp.Ordering.TheVariants.{Less, Greater}
use Rattle.std.specs.Cmp.{nat_cmp_total, eq_by_cmp_equiv, Equal-is}
use Rattle.std.specs.List.{HoldsAt, IsDistinct, AllByRecursion, list_any, count_by, insert, remove as without}
use Rattle.std.specs.List.Sorted.{IsPartitionPoint}
use Rattle.std.specs.FinSet as set
use Rattle.std.proofs.lemmas.List.Folds.{list_any_at}
use Rattle.std.proofs.lemmas.List.Sums.{sum_by-cons}
use Rattle.std.proofs.lemmas.Map.Views.{Contains-from_any}
use Rattle.std.specs.Vec.{vec_capacity}
use Rattle.std.specs.declared.alloc.Global.{Global}
use Rattle.cspf_model.specs.declared.link.Link.{Link}
use Rattle.cspf_model.specs.declared.batch.Change.{Change}
use Rattle.cspf_model.specs.declared.batch.Change.TheVariants.{Node}
use Rattle.cspf_model.specs.Database.{mark_count}
use Rattle.cspf_columns.specs.Index.{with_nothing}
use Rattle.cspf_model.specs.Changes.{change_key_cmp, key_changed, mark_key, marks_after, after_changes}
use Rattle.cspf_model.specs.Refusals.{AreOnceEach}
use Rattle.cspf_model.specs.Lemmas.MarkChanges.{marked, all_marked, adds_mark, removes_mark}
use Rattle.cspf_model.specs.Lemmas.LinkRows.{marks_in, marked_database}
use Rattle.cspf_columns.specs.Rows.{AreRising}
use Rattle.cspf_db.specs.Tables.Parts.{AreMarks}
use Rattle.cspf_model.proofs.Batches.RouterSets.{len-from_distinct}
use Rattle.cspf_model.proofs.Databases.Keys.{change_keys_apart}
use Rattle.cspf_model.proofs.Databases.LastChanges.{tied_alone, after_mark}
use Rattle.cspf_model.proofs.Databases.MarkedLinks.{marks_counted}
use Rattle.cspf_columns.proofs.RouterLists.{apart_from_gap}
use Rattle.cspf_columns.proofs.SortedEntries.{test_from_true, true_from_test, distinct, sorted_without}

-- The keys of the entries that `with_nothing` makes of numbers are these numbers.
numbers_of : (ns : List ℕ) → map (λ n. (with_nothing n).0) ns ≡ ns
numbers_of [] = refl
numbers_of (n ∷ ns) = ap (λ ms. n ∷ ms) (numbers_of ns)

-- If marks are in increasing order, no two of them are equal. A mark says that a router has no
-- transit.
pub apart_marks : (marks : List ℕ) → AreRising marks → IsDistinct (eq_by_cmp nat_cmp) marks
apart_marks marks rising =
    subst (IsDistinct (eq_by_cmp nat_cmp)) (numbers_of marks) (distinct nat_cmp_total with_nothing marks (test_from_true _ rising))

-- If marks are in increasing order, the set of the marks has as many members as the list. A mark
-- says that a router has no transit.
pub len-marks_in : (marks : List ℕ) → AreRising marks → set.len (marks_in marks) ≡ length marks
len-marks_in marks rising = len-from_distinct marks (apart_marks marks rising)

-- After the number `n` is inserted in a list, some number of the list passes the test `p` exactly
-- if `n` or one of the old numbers passes `p`.
any-insert : (p : ℕ → Bool) (ns : List ℕ) (at n : ℕ) → at ≤ length ns → list_any p (insert ns at n) ≡ (p n || list_any p ns)
any-insert p ns zero n h = refl
any-insert p [] (suc at) n h = absurd (omega arith)
any-insert p (m ∷ ns) (suc at) n h =
    ap (λ b. p m || b) (any-insert p ns at n (omega (arith, h))) ∙ swapped (p m) (p n) (list_any p ns)
  where
    swapped : (a b c : Bool) → (a || (b || c)) ≡ (b || (a || c))
    swapped true true c = refl
    swapped true false c = refl
    swapped false b c = refl

-- Inserting a mark in the list of marks inserts it in the set of marks. A mark says that a router
-- has no transit.
pub marks-insert : (marks : List ℕ) (at router : ℕ) → at ≤ length marks → marks_in (insert marks at router) ≡ set.insert (marks_in marks) router
marks-insert marks at router h =
    set.same_set nat_cmp_total set.nat_cmp-IsAntisymmetric _ _ (λ q.
    set.contains-from_list nat_cmp_total (insert marks at router) q
    ∙ any-insert (eq_by_cmp nat_cmp q) marks at router h
    ∙ ap (λ b. eq_by_cmp nat_cmp q router || b) (sym (set.contains-from_list nat_cmp_total marks q))
    ∙ sym (set.contains-insert nat_cmp_total (marks_in marks) router q))

-- If `n` isn't in a list and `q` equals `n`, then `q` isn't in the list.
not_among : (n : ℕ) (ns : List ℕ) → AllByRecursion (λ y. eq_by_cmp nat_cmp n y ≡ false) ns → (q : ℕ) → eq_by_cmp nat_cmp q n ≡ true → list_any (eq_by_cmp nat_cmp q) ns ≡ false
not_among n [] apart q tie = refl
not_among n (m ∷ ns) apart q tie =
    let same : q ≡ n = set.nat_cmp-IsAntisymmetric q n ((Equal-is (nat_cmp q n)).0 tie) in
    ap (λ b. b || list_any (eq_by_cmp nat_cmp q) ns) (ap (λ k. eq_by_cmp nat_cmp k m) same ∙ apart.0) ∙ not_among n ns apart.1 q tie

-- The number `n` is removed from a list of distinct numbers. A number is in the new list exactly if
-- it is in the old list and isn't `n`.
any-without : (ns : List ℕ) (at n d : ℕ) → IsDistinct (eq_by_cmp nat_cmp) ns → at < length ns → get_or ns at d ≡ n → (q : ℕ)
    → list_any (eq_by_cmp nat_cmp q) (without ns at) ≡ (not (eq_by_cmp nat_cmp q n) && list_any (eq_by_cmp nat_cmp q) ns)
unfolding IsDistinct
any-without [] at n d apart h is q = absurd (omega arith)
any-without (m ∷ ns) zero n d apart h is q =
    elim (eq_by_cmp nat_cmp q n) as (λ b. eq_by_cmp nat_cmp q n ≡ b → list_any (eq_by_cmp nat_cmp q) ns ≡ (not b && (eq_by_cmp nat_cmp q m || list_any (eq_by_cmp nat_cmp q) ns))) [
      | true ↦ λ tie. not_among m ns apart.0 q (ap (eq_by_cmp nat_cmp q) is ∙ tie)
      | false ↦ λ off. ap (λ b. b || list_any (eq_by_cmp nat_cmp q) ns) (sym (ap (eq_by_cmp nat_cmp q) is ∙ off))
    ] refl
any-without (m ∷ ns) (suc at) n d apart h is q =
    let rest = any-without ns at n d apart.1 (omega (arith, h)) is q in
    elim (eq_by_cmp nat_cmp q n) as (λ b. eq_by_cmp nat_cmp q n ≡ b → list_any (eq_by_cmp nat_cmp q) (without ns at) ≡ (not b && list_any (eq_by_cmp nat_cmp q) ns) → (eq_by_cmp nat_cmp q m || list_any (eq_by_cmp nat_cmp q) (without ns at)) ≡ (not b && (eq_by_cmp nat_cmp q m || list_any (eq_by_cmp nat_cmp q) ns))) [
      | true ↦ λ tie gone. ap (λ b. eq_by_cmp nat_cmp q m || b) gone ∙ ap (λ b. b || false) (first_apart m n ns at d apart.0 (omega (arith, h)) is q tie)
      | false ↦ λ off kept. ap (λ b. eq_by_cmp nat_cmp q m || b) kept
    ] refl rest
  where
    -- If all numbers in a list differ from `m`, a number that equals one of them differs from `m`.
    first_apart : (m n : ℕ) (ns : List ℕ) (at d : ℕ) → AllByRecursion (λ y. eq_by_cmp nat_cmp m y ≡ false) ns → at < length ns → get_or ns at d ≡ n → (q : ℕ) → eq_by_cmp nat_cmp q n ≡ true → eq_by_cmp nat_cmp q m ≡ false
    first_apart m n [] at d apart h is q tie = absurd (omega arith)
    first_apart m n (y ∷ ns) zero d apart h is q tie =
        let same : q ≡ n = set.nat_cmp-IsAntisymmetric q n ((Equal-is (nat_cmp q n)).0 tie) in
        ap (λ k. eq_by_cmp nat_cmp k m) (same ∙ sym is) ∙ (eq_by_cmp_equiv nat_cmp_total).symm y m ∙ apart.0
    first_apart m n (y ∷ ns) (suc at) d apart h is q tie = first_apart m n ns at d apart.1 (omega (arith, h)) is q tie

-- Removing a mark from the list of marks removes it from the set of marks. A mark says that a
-- router has no transit.
pub marks-without : (marks : List ℕ) (at router : ℕ) → AreRising marks → at < length marks → get_or marks at router ≡ router → marks_in (without marks at) ≡ set.remove (marks_in marks) router
marks-without marks at router rising h is =
    set.same_set nat_cmp_total set.nat_cmp-IsAntisymmetric _ _ (λ q.
    set.contains-from_list nat_cmp_total (without marks at) q
    ∙ any-without marks at router router (apart_marks marks rising) h is q
    ∙ ap (λ b. not (eq_by_cmp nat_cmp q router) && b) (sym (set.contains-from_list nat_cmp_total marks q))
    ∙ sym (set.contains-remove nat_cmp_total (marks_in marks) router q))

-- If marks are in increasing order, the marks that are left after a removal are in increasing
-- order. A mark says that a router has no transit.
pub rising-without : (marks : List ℕ) (at : ℕ) → AreRising marks → AreRising (without marks at)
rising-without marks at rising = true_from_test _ (sorted_without nat_cmp_total with_nothing marks at (test_from_true _ rising))

-- Marking a router that is already marked changes nothing. Removing the mark of an unmarked router
-- changes nothing either. A mark says that a router has no transit.
pub marks-same : (marks : set.FinSet nat_cmp) (router : ℕ) (transit : Bool) → set.contains marks router ≡ not transit → marks ≡ marks_after marks router transit
marks-same marks router transit is =
    set.same_set nat_cmp_total set.nat_cmp-IsAntisymmetric _ _ (λ q. kept q transit is)
  where
    tied : (q : ℕ) → eq_by_cmp nat_cmp q router ≡ true → set.contains marks q ≡ set.contains marks router
    tied q tie = ap (set.contains marks) (set.nat_cmp-IsAntisymmetric q router ((Equal-is (nat_cmp q router)).0 tie))

    both_ways : (b c : Bool) → (b ≡ true → c ≡ true) → c ≡ (b || c)
    both_ways true c on = on refl
    both_ways false c on = refl

    and_ways : (b c : Bool) → (b ≡ true → c ≡ false) → c ≡ (not b && c)
    and_ways true c off = off refl
    and_ways false c off = refl

    kept : (q : ℕ) (transit : Bool) → set.contains marks router ≡ not transit → set.contains marks q ≡ set.contains (marks_after marks router transit) q
    kept q true off =
        and_ways (eq_by_cmp nat_cmp q router) (set.contains marks q) (λ tie. tied q tie ∙ off) ∙ sym (set.contains-remove nat_cmp_total marks router q)
    kept q false on =
        both_ways (eq_by_cmp nat_cmp q router) (set.contains marks q) (λ tie. tied q tie ∙ on) ∙ sym (set.contains-insert nat_cmp_total marks router q)

-- A router in the list of marks is in the set of marks. A mark says that a router has no transit.
pub marked_at : (marks : List ℕ) (at router : ℕ) → at < length marks → get_or marks at router ≡ router → set.contains (marks_in marks) router ≡ true
marked_at marks at router h is =
    set.contains-from_list nat_cmp_total marks router
    ∙ list_any_at (eq_by_cmp nat_cmp router) marks at router h (ap (eq_by_cmp nat_cmp router) is ∙ (eq_by_cmp_equiv nat_cmp_total).refl router)

-- If all marks before an index are below a router, and all marks from this index on are above the
-- router, the router isn't marked. A mark says that a router has no transit.
pub unmarked_gap : (marks : List ℕ) (router at : ℕ) → IsPartitionPoint (λ y. nat_cmp y router ≡ Less) (λ y. nat_cmp y router ≡ Greater) marks at → set.contains (marks_in marks) router ≡ false
unmarked_gap marks router at gap =
    elim (set.contains (marks_in marks) router) as (λ b. set.contains (marks_in marks) router ≡ b → b ≡ false) [
      | true ↦ λ on. absurd (apart_from_gap marks router at gap (Contains-from_any (λ x y e. set.nat_cmp-IsAntisymmetric x y ((Equal-is (nat_cmp x y)).0 e)) router marks (sym (set.contains-from_list nat_cmp_total marks router) ∙ on)))
      | false ↦ λ _. refl
    ] refl

-- A search of the marks finds a router exactly if the router is marked. A mark says that a router
-- has no transit.
pub tells_mark : (marks : List ℕ) (router : ℕ) (r : Result ℕ ℕ) (b : Bool) → b ≡ is_ok r → IfOk r (λ at. at < length marks) → IfOk r (HoldsAt (λ y. y ≡ router) marks)
    → IfErr r (IsPartitionPoint (λ y. nat_cmp y router ≡ Less) (λ y. nat_cmp y router ≡ Greater) marks) → b ≡ set.contains (marks_in marks) router
tells_mark marks router (Ok at) b e within found gap = e ∙ sym (marked_at marks at router within (found router))
tells_mark marks router (Err at) b e within found gap = e ∙ sym (unmarked_gap marks router at gap)

-- A change that isn't a change of a router's transit doesn't affect whether this router is marked.
-- A mark says that a router has no transit.
marked_there : (marks : set.FinSet nat_cmp) (c : Change) (q : ℕ) → eq_by_cmp change_key_cmp (key_changed c) (mark_key q) ≡ false → set.contains (marked marks c) q ≡ set.contains marks q
marked_there marks c q apart = search (rules, after_mark, change_keys_apart, tied_alone)

-- If the changes `c` and `b` have different keys, `c` doesn't affect whether `b` adds or removes a
-- mark. A mark says that a router has no transit.
adds_same : (marks : set.FinSet nat_cmp) (c b : Change) → eq_by_cmp change_key_cmp (key_changed c) (key_changed b) ≡ false → adds_mark (marked marks c) b ≡ adds_mark marks b
adds_same marks c b apart = search (rules, marked_there)

removes_same : (marks : set.FinSet nat_cmp) (c b : Change) → eq_by_cmp change_key_cmp (key_changed c) (key_changed b) ≡ false → removes_mark (marked marks c) b ≡ removes_mark marks b
removes_same marks c b apart = search (rules, marked_there)

-- Suppose that the tests `p` and `q` agree on all changes except changes with the key of `c`. If no
-- change in `cs` has this key, the number of changes in `cs` that pass is the same for both tests.
count_same : (p q : Change → Bool) (c : Change) (cs : List Change) → ((b : Change) → eq_by_cmp change_key_cmp (key_changed c) (key_changed b) ≡ false → p b ≡ q b)
    → AllByRecursion (λ y. eq_by_cmp change_key_cmp (key_changed c) y ≡ false) (map key_changed cs) → count_by p cs ≡ count_by q cs
count_same p q c [] alike apart = refl
count_same p q c (b ∷ cs) alike apart =
    sum_by-cons (λ x. cond (p x) 1 0) b cs
    ∙ ap (λ t. cond t 1 0 + count_by p cs) (alike b apart.0) ∙ ap (λ n. cond (q b) 1 0 + n) (count_same p q c cs alike apart.1)
    ∙ sym (sum_by-cons (λ x. cond (q x) 1 0) b cs)

-- One change increases the number of marks by 1 if it adds a mark, and decreases the number by 1 if
-- it removes a mark. A mark says that a router has no transit.
one_mark : (marks : set.FinSet nat_cmp) (c : Change) → set.len (marked marks c) + cond (removes_mark marks c) 1 0 ≡ set.len marks + cond (adds_mark marks c) 1 0
one_mark marks (Node router false) =
    ap (λ n. n + 0) (set.len-insert nat_cmp_total marks router) ∙ one_more (set.contains marks router) (set.len marks)
  where
    one_more : (b : Bool) (n : ℕ) → cond b n (n + 1) + 0 ≡ n + cond (not b) 1 0
    one_more true n = refl
    one_more false n = omega arith
one_mark marks (Node router true) =
    ap (λ n. n + cond (set.contains marks router) 1 0) (set.len-remove nat_cmp_total marks router) ∙ one_less (set.contains marks router) (set.len marks) some
  where
    some : set.contains marks router ≡ true → set.len marks ≡ 0 → ⊥
    some on none = true≢false (sym on ∙ ap (λ s. set.contains s router) (set.empty_of_len marks none) ∙ set.contains-empty nat_cmp router)

    one_less : (b : Bool) (n : ℕ) → (b ≡ true → n ≡ 0 → ⊥) → cond b (n - 1) n + cond b 1 0 ≡ n + 0
    one_less true n some = let h = some refl in omega (arith, h)
    one_less false n some = refl
one_mark marks c = refl

-- If the equation of `marks_count` holds for one change and for the later changes, it holds for all
-- of these changes together.
joined : (after between before less more also one two gone : ℕ) → after + less ≡ between + also → also ≡ more → less ≡ gone → between + one ≡ before + two → after + (one + gone) ≡ before + (two + more)
joined after between before less more also one two gone e same alike step = omega arith

-- After changes with distinct keys, the number of marks is the old number, plus the number of added
-- marks, minus the number of removed marks. A mark says that a router has no transit.
pub marks_count : (marks : set.FinSet nat_cmp) (cs : List Change) → AreOnceEach cs → set.len (all_marked marks cs) + count_by (removes_mark marks) cs ≡ set.len marks + count_by (adds_mark marks) cs
unfolding IsDistinct
marks_count marks [] once = refl
marks_count marks (c ∷ cs) once =
    ap (λ n. set.len (all_marked (marked marks c) cs) + n) (sum_by-cons (λ x. cond (removes_mark marks x) 1 0) c cs)
    ∙ joined (set.len (all_marked (marked marks c) cs)) (set.len (marked marks c)) (set.len marks) (count_by (removes_mark (marked marks c)) cs) (count_by (adds_mark marks) cs) (count_by (adds_mark (marked marks c)) cs)
    (cond (removes_mark marks c) 1 0) (cond (adds_mark marks c) 1 0) (count_by (removes_mark marks) cs) (marks_count (marked marks c) cs once.1)
    (count_same (adds_mark (marked marks c)) (adds_mark marks) c cs (adds_same marks c) once.0)
    (count_same (removes_mark (marked marks c)) (removes_mark marks) c cs (removes_same marks c) once.0)
    (one_mark marks c)
    ∙ ap (λ n. set.len marks + n) (sym (sum_by-cons (λ x. cond (adds_mark marks x) 1 0) c cs))

-- The number of marks after the changes is the number of marks before them, plus the number of
-- added marks, minus the number of removed marks. A mark says that a router has no transit.
pub marks_difference : (marks : List ℕ) (cs : List Change) → AreRising marks → AreOnceEach cs
    → set.len (all_marked (marks_in marks) cs) ≡ length marks + count_by (adds_mark (marks_in marks)) cs - count_by (removes_mark (marks_in marks)) cs
marks_difference marks cs rising once = search (rules, len-marks_in, marks_count, marks_in)

-- Suppose that `new` lists the marks after a batch in increasing order, and has the capacity that
-- `AreMarks` requires. If there are at most 1,024 marks, `AreMarks` holds of `new`. A mark says
-- that a router has no transit.
pub still_marks : (rows : List Link) (marks : List ℕ) (new : Vec ℕ Global) (cs : List Change) → mark_count (after_changes (marked_database rows marks) cs) ≤ 1024
    → marks_in new.items ≡ all_marked (marks_in marks) cs → AreRising new.items → 5120 ≤ vec_capacity new → AreMarks new
still_marks rows marks new cs few h2 rising room = search (rules, len-marks_in, marks_counted)
