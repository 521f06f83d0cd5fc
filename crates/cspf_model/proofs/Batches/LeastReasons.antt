-- A batch is refused for at most one reason: the first reason for which it doesn't fit the
-- database.
use Rattle.cspf_model.specs.Laws.{OneRefusal}
use mathlib.Core.Bool.{true≢false}
use Rattle.std.proofs.Common.{◌≡◌, ℕ, zero, suc, ◌+◌, ◌<◌, ◌≤◌, ◌||◌, true, Option, Some, None, option_map, List, [], ◌∷◌, length, map, take, refl, sym, ap, subst, ◌∙◌, add-one, arith, length-take-le, IfNone, rules}
use Rattle.std.specs.Ordering.{eq_by_cmp}
use Rattle.std.specs.List.{IsDistinct, AllWithin, HoldsAt, list_any, slice_get, slice_index_or}
use Rattle.std.proofs.lemmas.Bool.{cases_lt}
use Rattle.std.proofs.lemmas.Cmp.{eq_by_cmp_equiv}
use Rattle.std.proofs.lemmas.List.{map-append, take_more, take_all, get_or-take, get_or_default, length-map}
use Rattle.std.proofs.lemmas.List.Folds.{Any-from_list_any, list_any-from_Any}
use Rattle.std.proofs.lemmas.Map.Keys.{IsDistinct-push, apart_from_distinct}
use Rattle.std.proofs.lemmas.Option.{slice_get-get_or, slice_get_within, slice_get-map, get_or_from_slice_get}
use Rattle.cspf_model.specs.declared.batch.Change.{Change}
use Rattle.cspf_model.specs.declared.refusal.Refusal.{Refusal}
use Rattle.cspf_model.specs.declared.refusal.Refusal.TheVariants.{TooLong, Duplicate, Absent, Full, TooManyRouters, TooManyMarks}
use Rattle.cspf_model.specs.Numbered.{NumberedChanges}
use Rattle.cspf_model.specs.Database.{Database}
use Rattle.cspf_model.specs.Changes.{ChangeKey, change_key_cmp, key_changed, IsPresent, Fits}
use Rattle.cspf_model.specs.Lemmas.RepeatedKeys.{is_changed, IsNewAt, IsRepeatedAt}
use Rattle.cspf_model.specs.Refusals.{change_at, RepeatsAt, RemovesNothing, RemovesNothingAt, IsLeastPlace, AreOnceEach, ArePresent, IsRefusal}
use Rattle.cspf_model.proofs.Databases.Keys.{change_keys_total, change_keys_same, change_key_itself}

-- Equal keys of changes compare as equal.
tie_from : (j k : ChangeKey) → j ≡ k → eq_by_cmp change_key_cmp j k ≡ true
tie_from j k e = ap (eq_by_cmp change_key_cmp j) (sym e) ∙ change_key_itself j

-- The change at index `at`, counted from 0, has the position `at + 1`, counted from 1.
at_place : (cs : List Change) (at : ℕ) (d : Change) → at < length cs
    → change_at cs (at + 1) ≡ Some (slice_index_or cs at d)
at_place cs at d within = ap (change_at cs) (add-one at) ∙ slice_get-get_or cs at d within

-- If a change at a lower index than `at` has the key of the change at `at`, one of the first `at`
-- changes has this key.
repeated_before : (cs : List Change) (at earlier : ℕ) (d : Change) → at < length cs → earlier < at
    → key_changed (slice_index_or cs earlier d) ≡ key_changed (slice_index_or cs at d)
    → is_changed (take at cs) (key_changed (slice_index_or cs at d)) ≡ true
repeated_before cs at earlier d within before same = search (rules, get_or-take, get_or_default, length-take-le, list_any-from_Any, tie_from)

-- Suppose that no change at an index below `at` repeats the key of an earlier change, where indexes
-- count from 0. Then no change at a position up to `at` repeats a key, where positions count from
-- 1.
new_before : (cs : List Change) (at : ℕ) → ((k : ℕ) → k < at → IsNewAt cs k) → (place : ℕ)
    → place < at + 1 → ¬ RepeatsAt cs place
new_before cs at new zero within r = absurd (none-some (r.is_second))
  where
    none-some : ◌≡◌ {A = Option Change} None (Some r.second) → ⊥
    none-some e = cc
new_before cs at new (suc n) within r = earlier_cases r.earlier r.is_earlier r.is_first
  where
    earlier_cases : (e : ℕ) → e < suc n → change_at cs e ≡ Some r.first → ⊥
    earlier_cases zero before is = absurd (cc)
    earlier_cases (suc m) before is =
        let first = get_or_from_slice_get cs m r.first r.second is in
        let second = get_or_from_slice_get cs n r.second r.second r.is_second in
        true≢false
        (sym (repeated_before cs n m r.second (slice_get_within cs n r.second r.is_second) (omega (arith, before)) (ap key_changed first ∙ r.one_key ∙ ap key_changed (sym second))) ∙ new n (omega (arith, within)) r.second)

-- If `at` is the first index at which a change repeats a key, `at + 1` is the first position at
-- which a change repeats a key.
pub least_repeat : (cs : List Change) (at : ℕ) → at < length cs → IsRepeatedAt cs at
    → ((k : ℕ) → k < at → IsNewAt cs k) → IsLeastPlace (RepeatsAt cs) (at + 1)
least_repeat [] at within repeated new = absurd (omega (arith, within))
least_repeat (c ∷ cs) at within repeated new = record {
  here =
      let one = Any-from_list_any (λ b. eq_by_cmp change_key_cmp (key_changed (slice_index_or (c ∷ cs) at c)) (key_changed b)) (take at (c ∷ cs)) (repeated c) in
      let long : length (take at (c ∷ cs)) ≡ at = length-take-le at (c ∷ cs) (omega (arith, within)) in
      let before : one.0 < at = omega (arith, long, one.2) in
      record {
        earlier = one.0 + 1;
        is_earlier = omega (arith, before);
        first = slice_index_or (c ∷ cs) one.0 c;
        second = slice_index_or (c ∷ cs) at c;
        is_first = at_place (c ∷ cs) one.0 c (omega (arith, before, within));
        is_second = at_place (c ∷ cs) at c within;
        one_key =
            ap key_changed
            (sym (get_or-take at (c ∷ cs) one.0 c before) ∙ get_or_default (take at (c ∷ cs)) one.0 c one.1 one.2 ∙ one.3)
            ∙ sym (change_keys_same (key_changed (slice_index_or (c ∷ cs) at c)) (key_changed one.1) one.4);
      };
  none_before = new_before (c ∷ cs) at new;
}

-- Some change has the key `k` exactly if `k` is among the keys of the changes.
any-keys : (k : ChangeKey) (cs : List Change)
    → list_any (eq_by_cmp change_key_cmp k) (map key_changed cs) ≡ is_changed cs k
any-keys k [] = refl
any-keys k (c ∷ cs) = ap (λ b. eq_by_cmp change_key_cmp k (key_changed c) || b) (any-keys k cs)

-- If no change repeats the key of an earlier change, the first `n` changes have different keys.
once_below : (cs : List Change) (d : Change) → ((k : ℕ) → k < length cs → IsNewAt cs k) → (n : ℕ)
    → n ≤ length cs → AreOnceEach (take n cs)
unfolding IsDistinct
once_below cs d new zero within = tt
once_below cs d new (suc n) within =
    subst AreOnceEach (ap (λ m. take m cs) (add-one n))
    (subst AreOnceEach (sym (take_more cs n d (omega (arith, within))))
    (subst (IsDistinct (eq_by_cmp change_key_cmp)) (sym (map-append key_changed (take n cs) (slice_index_or cs n d ∷ [])))
    (IsDistinct-push (eq_by_cmp_equiv change_keys_total) (map key_changed (take n cs)) (key_changed (slice_index_or cs n d)) (once_below cs d new n (omega (arith, within)))
    (any-keys _ (take n cs) ∙ new n (omega (arith, within)) d))))

-- If no change repeats a key, all changes have different keys.
pub once_from_new : (cs : List Change) → ((k : ℕ) → k < length cs → IsNewAt cs k) → AreOnceEach cs
unfolding IsDistinct
once_from_new [] new = tt
once_from_new (c ∷ cs) new =
    subst AreOnceEach (take_all (length (c ∷ cs)) (c ∷ cs) (omega arith))
    (once_below (c ∷ cs) c new (length (c ∷ cs)) (omega arith))

-- If a search for a change that repeats a key finds none, all changes have different keys.
pub once_if_none : (cs : List Change) (r : Option ℕ)
    → IfNone r ((k : ℕ) → k < length cs → IsNewAt cs k) → IfNone r (AreOnceEach cs)
once_if_none cs r new = search (rules, once_from_new)

-- If a change removes a link that the database lacks, the database has no link with the key of this
-- removal.
absent_not_present : (d : Database) (c : Change) → RemovesNothing d c → ¬ IsPresent d c
absent_not_present d c absent = search rules

-- If `at` is the first index at which a change removes a link that the database lacks, `at + 1` is
-- the first position of such a change.
pub least_absent : (d : Database) (cs : List Change) (at : ℕ) → at < length cs
    → HoldsAt (RemovesNothing d) cs at → AllWithin (IsPresent d) cs 0 at
    → IsLeastPlace (RemovesNothingAt d cs) (at + 1)
least_absent d [] at within absent present = absurd (omega (arith, within))
least_absent d (c ∷ cs) at within absent present = record {
  here =
      record { change = slice_index_or (c ∷ cs) at c; is_change = at_place (c ∷ cs) at c within; removes_nothing = absent c };
  none_before = none_absent;
}
  where
    none_absent : (place : ℕ) → place < at + 1 → ¬ RemovesNothingAt d (c ∷ cs) place
    none_absent zero before r = none_there r.is_change
      where
        none_there : ◌≡◌ {A = Option Change} None (Some r.change) → ⊥
        none_there e = cc
    none_absent (suc n) before r =
        absent_not_present d r.change r.removes_nothing
        (subst (IsPresent d) (get_or_from_slice_get (c ∷ cs) n r.change r.change r.is_change) (present n r.change (omega arith) (omega (arith, before))))

-- If the change at an index is `c`, the list of the changes' keys has the key of `c` at this index.
key_there : (cs : List Change) (n : ℕ) (c : Change) (d : ChangeKey) → slice_get cs n ≡ Some c
    → slice_index_or (map key_changed cs) n d ≡ key_changed c
key_there cs n c d is =
    get_or_from_slice_get (map key_changed cs) n (key_changed c) d
    (slice_get-map key_changed cs n ∙ ap (option_map key_changed) is)

-- If some change repeats a key, the changes don't all have different keys.
repeats_not_once : (cs : List Change) (place : ℕ) → RepeatsAt cs place → ¬ AreOnceEach cs
repeats_not_once cs zero r once = absurd (none_there r.is_second)
  where
    none_there : ◌≡◌ {A = Option Change} None (Some r.second) → ⊥
    none_there e = cc
repeats_not_once cs (suc n) r once = earlier_cases r.earlier r.is_earlier r.is_first
  where
    earlier_cases : (e : ℕ) → e < suc n → change_at cs e ≡ Some r.first → ⊥
    earlier_cases zero before is = absurd (cc)
    earlier_cases (suc m) before is =
        let within : n < length (map key_changed cs) = omega (arith, slice_get_within cs n r.second r.is_second, length-map cs key_changed) in
        true≢false
        (sym (ap (eq_by_cmp change_key_cmp (key_changed r.first)) (sym r.one_key) ∙ change_key_itself (key_changed r.first))
        ∙ ap (λ k. eq_by_cmp change_key_cmp k (key_changed r.second))
        (sym (key_there cs m r.first (key_changed r.first) is))
        ∙ ap (eq_by_cmp change_key_cmp _) (sym (key_there cs n r.second (key_changed r.first) r.is_second))
        ∙ apart_from_distinct (eq_by_cmp change_key_cmp) (map key_changed cs) m n (key_changed r.first)
        once (omega (arith, before)) within)

-- If some change removes a link that the database lacks, then not every removal has the key of a
-- link of the database.
removes_not_present : (d : Database) (cs : List Change) (place : ℕ) → RemovesNothingAt d cs place
    → ¬ ArePresent d cs
removes_not_present d cs place r = search (rules, absent_not_present, get_or_from_slice_get, slice_get_within)

-- A batch that is refused doesn't fit the database.
pub refused_unfit : (d : Database) (b : NumberedChanges) (e : Refusal) → IsRefusal d b e
    → ¬ Fits d b
refused_unfit d b TooLong why fits = absurd (omega (arith, why, fits.short))
refused_unfit d b (Duplicate at) why fits = repeats_not_once b.changes at why.1.here fits.once
refused_unfit d b (Absent at) why fits = removes_not_present d b.changes at why.2.here fits.present
refused_unfit d b Full why fits = absurd (omega (arith, why.1, fits.links))
refused_unfit d b TooManyRouters why fits = absurd (omega (arith, why.2, fits.routers))
refused_unfit d b TooManyMarks why fits = absurd (omega (arith, why.3, fits.marks))

-- There is at most one first position at which `P` holds.
one_least : (P : ℕ → Type 0) (m n : ℕ) → IsLeastPlace P m → IsLeastPlace P n → m ≡ n
one_least P m n is also = search rules

-- The position of a reason in the order in which the reasons are tested, from 0.
rank : Refusal → ℕ
rank TooLong = 0
rank (Duplicate at) = 1
rank (Absent at) = 2
rank Full = 3
rank TooManyRouters = 4
rank TooManyMarks = 5

-- If a batch is refused for the reasons `e` and `f`, and `f` doesn't precede `e` in the order of
-- reasons, `e` and `f` are equal.
one_upto : (d : Database) (b : NumberedChanges) (e f : Refusal) → rank e ≤ rank f → IsRefusal d b e → IsRefusal d b f → e ≡ f
unfolding rank
one_upto d b TooLong TooLong low is also = refl
one_upto d b TooLong (Duplicate n) low is also = absurd (omega (arith, is, also.0))
one_upto d b TooLong (Absent n) low is also = absurd (omega (arith, is, also.0))
one_upto d b (Duplicate m) (Duplicate n) low is also =
    ap Duplicate (one_least (RepeatsAt b.changes) m n is.1 also.1)
one_upto d b (Duplicate m) (Absent n) low is also =
    absurd (repeats_not_once b.changes m is.1.here also.1)
one_upto d b (Absent m) (Absent n) low is also =
    ap Absent (one_least (RemovesNothingAt d b.changes) m n is.2 also.2)
one_upto d b Full Full low is also = refl
one_upto d b Full TooManyRouters low is also = absurd (omega (arith, is.1, also.1))
one_upto d b Full TooManyMarks low is also = absurd (omega (arith, is.1, also.1))
one_upto d b TooManyRouters TooManyRouters low is also = refl
one_upto d b TooManyRouters TooManyMarks low is also = absurd (omega (arith, is.2, also.2))
one_upto d b TooManyMarks TooManyMarks low is also = refl
one_upto d b TooLong Full low is also = absurd (omega (arith, is, also.0.short))
one_upto d b TooLong TooManyRouters low is also = absurd (omega (arith, is, also.0.short))
one_upto d b TooLong TooManyMarks low is also = absurd (omega (arith, is, also.0.short))
one_upto d b (Duplicate m) Full low is also = absurd (repeats_not_once b.changes m is.1.here also.0.once)
one_upto d b (Duplicate m) TooManyRouters low is also = absurd (repeats_not_once b.changes m is.1.here also.0.once)
one_upto d b (Duplicate m) TooManyMarks low is also = absurd (repeats_not_once b.changes m is.1.here also.0.once)
one_upto d b (Absent m) Full low is also = absurd (removes_not_present d b.changes m is.2.here also.0.present)
one_upto d b (Absent m) TooManyRouters low is also = absurd (removes_not_present d b.changes m is.2.here also.0.present)
one_upto d b (Absent m) TooManyMarks low is also = absurd (removes_not_present d b.changes m is.2.here also.0.present)
one_upto d b e f low is also = absurd (omega (arith, low))

-- A batch is refused for at most one reason.
pub one_reason : OneRefusal
one_reason = search (rules, cases_lt, one_upto, rank)
