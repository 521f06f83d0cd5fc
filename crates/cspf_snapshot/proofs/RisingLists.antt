-- Two strictly increasing lists with the same numbers are equal.
use Rattle.std.proofs.Common.{◌≡◌, ℕ, ◌||◌, ◌&&◌, Bool, true, false, cond, T, Some, None, List, [], ◌∷◌, map, refl, sym, ap, ◌∙◌}
use Rattle.std.specs.Ordering.{nat_cmp, eq_by_cmp, is_lt}
use Rattle.std.specs.declared.cmp.Ordering.TheVariants.{Less}
use Rattle.std.specs.Cmp.{nat_cmp_total}
use Rattle.std.specs.List.{AllByRecursion, list_any}
use Rattle.std.specs.List.Sorted.{IsStrictlySortedBy}
use Rattle.std.specs.FinMap.{nat_cmp-IsAntisymmetric}
use Rattle.std.specs.FinMap.Entries.{find, is_sorted, below_all, same_entries}

-- The entries of a finite set. There is one entry for each number of a list: its key is the number,
-- and its value is empty.
abbrev entries : List ℕ → List (ℕ × Unit {0})
entries ns = map (λ n. (n, tt)) ns

-- a search among the `entries` of a list finds a number exactly if the list has this number
find-entries : (q : ℕ) (ns : List ℕ)
    → find nat_cmp q (entries ns) ≡ cond (list_any (eq_by_cmp nat_cmp q) ns) (Some tt) None
find-entries q [] = refl
find-entries q (n ∷ ns) =
    elim (eq_by_cmp nat_cmp q n) as (λ b. cond b (Some tt) (find nat_cmp q (entries ns)) ≡ cond (b || list_any (eq_by_cmp nat_cmp q) ns) (Some tt) None) [ true ↦ refl | false ↦ find-entries q ns ]

-- if two tests are true, their conjunction is true
both : (a b : Bool) → a ≡ true → T b → T (a && b)
both true b is h = h
both false b is h = absurd (cc)

-- if a number is less than all numbers of a list, it is less than the keys of all `entries` of this
-- list
below_entries : (n : ℕ) (ns : List ℕ) → AllByRecursion (λ m. nat_cmp n m ≡ Less) ns
    → T (below_all nat_cmp n (entries ns))
below_entries n [] below = tt
below_entries n (m ∷ ns) below =
    both (is_lt (nat_cmp n m)) (below_all nat_cmp n (entries ns)) (ap is_lt below.0) (below_entries n ns below.1)

-- the `entries` of a strictly increasing list are sorted by their keys
sorted_entries : (ns : List ℕ) → IsStrictlySortedBy nat_cmp ns → T (is_sorted nat_cmp (entries ns))
unfolding IsStrictlySortedBy
sorted_entries [] rising = tt
sorted_entries (n ∷ ns) rising =
    first (below_all nat_cmp n (entries ns)) (is_sorted nat_cmp (entries ns)) (below_entries n ns rising.0) (sorted_entries ns rising.1)
  where
    first : (a b : Bool) → T a → T b → T (a && b)
    first true b g h = h
    first false b g h = absurd g

-- the keys of the `entries` of a list are the numbers of this list
numbers-entries : (ns : List ℕ) → map (λ e. e.0) (entries ns) ≡ ns
numbers-entries [] = refl
numbers-entries (n ∷ ns) = ap (λ ms. n ∷ ms) (numbers-entries ns)

-- two strictly increasing lists with the same numbers are equal
pub same_rising : (ms ns : List ℕ) → IsStrictlySortedBy nat_cmp ms → IsStrictlySortedBy nat_cmp ns
    → ((q : ℕ) → list_any (eq_by_cmp nat_cmp q) ms ≡ list_any (eq_by_cmp nat_cmp q) ns) → ms ≡ ns
same_rising ms ns rising also same =
    sym (numbers-entries ms)
    ∙ ap (map (λ e. e.0)) (same_entries nat_cmp nat_cmp_total nat_cmp-IsAntisymmetric (entries ms) (entries ns) (sorted_entries ms rising) (sorted_entries ns also) (λ q. find-entries q ms ∙ ap (λ b. cond b (Some tt) None) (same q) ∙ sym (find-entries q ns)))
    ∙ numbers-entries ns
