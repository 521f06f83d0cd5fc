-- If all links of a database are also in a second database, the first database has at most as many
-- routers as the second one.
use Rattle.std.proofs.Common.{◌≡◌, ℕ, zero, suc, ◌-◌, ◌≤◌, ◌&&◌, ◌||◌, Bool, true, false, not, cond, List, [], ◌∷◌, refl, sym, ap, ◌∙◌, arith}
use Rattle.std.specs.Ordering.{nat_cmp, eq_by_cmp}
use Rattle.std.specs.Cmp.{nat_cmp_total}
use Rattle.std.specs.List.{list_any}
use Rattle.std.proofs.lemmas.Cmp.{eq_by_cmp_equiv}
use Rattle.std.specs.FinSet as set
use Rattle.cspf_model.specs.Database.{Database, key_of, AreAtTheirKeys, all_routers, router_count}
use Rattle.cspf_model.specs.Laws.{RoutersAreCounted}
use Rattle.cspf_snapshot.proofs.Parts.{IsPartOf, part_at_keys}

-- a set of numbers
abbrev Numbers : Type 0
Numbers = set.FinSet nat_cmp

-- each number of the set `s` is in the set `t`
abbrev IsWithin : Numbers → Numbers → Type 0
IsWithin s t = (q : ℕ) → set.contains s q ≡ true → set.contains t q ≡ true

-- if a set's list of numbers is empty, the set has no numbers
no_items : (s : Numbers) → set.items s ≡ [] → set.len s ≡ 0
no_items s none =
    ap set.len (set.same_set nat_cmp_total set.nat_cmp-IsAntisymmetric s set.empty (λ q. set.contains-items s q ∙ ap (list_any (eq_by_cmp nat_cmp q)) none ∙ sym (set.contains-empty nat_cmp q)))
    ∙ set.len-empty nat_cmp

-- the first number of a set's list is in the set
first_item : (s : Numbers) (n : ℕ) (ns : List ℕ) → set.items s ≡ n ∷ ns → set.contains s n ≡ true
first_item s n ns is =
    set.contains-items s n ∙ ap (list_any (eq_by_cmp nat_cmp n)) is
    ∙ ap (λ b. b || list_any (eq_by_cmp nat_cmp n) ns) ((eq_by_cmp_equiv nat_cmp_total).refl n)

-- a set that isn't empty has at least one number
one_of : (s : Numbers) (ns : List ℕ) → set.items s ≡ ns → (set.len s ≡ 0 → ⊥)
    → (q : ℕ) × (set.contains s q ≡ true)
one_of s [] none some = absurd (some (no_items s none))
one_of s (n ∷ ns) is some = (n, first_item s n ns is)

-- a set that has a number isn't empty
some_there : (s : Numbers) (q : ℕ) → set.contains s q ≡ true → set.len s ≡ 0 → ⊥
some_there s q there none =
    off (sym there ∙ ap (λ t. set.contains t q) (set.empty_of_len s none) ∙ set.contains-empty nat_cmp q)
  where
    off : true ≡ false → ⊥
    off e = cc

-- removing a number of a set makes the set smaller by one
len-taken : (s : Numbers) (q : ℕ) → set.contains s q ≡ true → set.len (set.remove s q) ≡ set.len s - 1
len-taken s q there =
    set.len-remove nat_cmp_total s q ∙ ap (λ b. cond b (set.len s - 1) (set.len s)) there

-- if `c` is true whenever `b` is, and `a` and `b` are true, then `a` and `c` are true
both_still : (a b c : Bool) → (b ≡ true → c ≡ true) → (a && b) ≡ true → (a && c) ≡ true
both_still true b c still both = still both
both_still false b c still both = both

-- if each number of a set is in another set, this is still true after the same number is removed
-- from both sets
within_taken : (s t : Numbers) (q : ℕ) → IsWithin s t → IsWithin (set.remove s q) (set.remove t q)
within_taken s t q within x there =
    set.contains-remove nat_cmp_total t q x
    ∙ both_still (not (eq_by_cmp nat_cmp x q)) (set.contains s x) (set.contains t x) (within x)
    (sym (set.contains-remove nat_cmp_total s q x) ∙ there)

-- if each number of a set is in a second set, the first set has at most as many numbers as the
-- second set
len-le-within : (n : ℕ) (s t : Numbers) → set.len s ≡ n → IsWithin s t → set.len s ≤ set.len t
len-le-within zero s t is within = omega (arith, is)
len-le-within (suc n) s t is within =
    let one = one_of s (set.items s) refl (λ none. let no : ⊥ = omega (arith, is, none) in no) in
    let less = len-taken s one.0 one.1 in
    let rest = len-le-within n (set.remove s one.0) (set.remove t one.0) (omega (arith, less, is)) (within_taken s t one.0 within) in
    omega (arith, less, len-taken t one.0 (within one.0 one.1), some_there t one.0 (within one.0 one.1), rest, is)

-- if all links of `e` are in `d`, and each link of `d` is stored at its own key, then `e` has at
-- most as many routers as `d`
pub router_count-le : RoutersAreCounted → (e d : Database) → IsPartOf e d → AreAtTheirKeys d
    → router_count e ≤ router_count d
router_count-le counted e d part keyed =
    len-le-within (router_count e) (all_routers e) (all_routers d) refl
    (λ q there. let (l, is, stands) = (counted e (part_at_keys e d part keyed) q).0 there in
    (counted d keyed q).1 (l, part (key_of l) l is, stands))
