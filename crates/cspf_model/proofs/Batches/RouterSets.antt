-- Sets of routers that are stored as arrays, and when links begin and end at more than 1,024
-- routers.
use Rattle.std.proofs.Common.{◌≡◌, ℕ, ◌+◌, ◌<◌, ◌≤◌, ◌||◌, Bool, true, false, cond, List, [], ◌∷◌, ◌++◌, length, length-take-le, take, drop, slice_index, refl, sym, ap, ◌∙◌, arith, eqb, rules}
use Rattle.std.proofs.lemmas.Grind.{common_steps}
use Rattle.std.specs.Ordering.{nat_cmp, eq_by_cmp}
use Rattle.std.specs.Cmp.{nat_cmp_total, Equal-is, eq_by_cmp_equiv}
use Rattle.std.specs.List.{IsDistinct, list_any, slice_index_or, AllByRecursion}
use Rattle.std.specs.FinSet as set
use Rattle.std.proofs.lemmas.Bool.{eq-eqb}
use Rattle.std.proofs.lemmas.List.{at_drop_more, get_or-take, get_or_default}
use Rattle.std.proofs.lemmas.List.Folds.{list_any-from_Any}
use Rattle.std.proofs.lemmas.Map.Keys.{IsDistinct-push}
use Rattle.cspf_model.specs.declared.link.Link.{Link}
use Rattle.cspf_model.specs.declared.batch.Change.{Change}
use Rattle.cspf_model.specs.declared.batch.Change.TheVariants.{Put}
use Rattle.cspf_model.specs.Lemmas.RowsLeft.{is_untouched, rows_untouched, links_put}
use Rattle.cspf_model.specs.Lemmas.CountedEnds.{with_ends}
use Rattle.cspf_model.proofs.Databases.EndCounts.{len-with_ends-le, len-insert-le}

-- If the numbers in a list are different, the set of these numbers has as many members as the list
-- has items.
pub len-from_distinct : (xs : List ℕ) → IsDistinct (eq_by_cmp nat_cmp) xs
    → set.len (set.from_list {R = nat_cmp} xs) ≡ length xs
unfolding IsDistinct
len-from_distinct [] apart = set.len-empty nat_cmp
len-from_distinct (x ∷ xs) apart =
    set.len-insert nat_cmp_total (set.from_list {R = nat_cmp} xs) x
    ∙ ap
    (λ b. cond b (set.len (set.from_list {R = nat_cmp} xs)) (set.len (set.from_list {R = nat_cmp} xs) + 1)) (set.contains-from_list nat_cmp_total xs x ∙ none_of x xs apart.0)
    ∙ ap (λ n. n + 1) (len-from_distinct xs apart.1) ∙ omega arith
  where
    none_of : (x : ℕ) (ys : List ℕ) → AllByRecursion (λ y. eq_by_cmp nat_cmp x y ≡ false) ys
        → list_any (eq_by_cmp nat_cmp x) ys ≡ false
    none_of x [] all = refl
    none_of x (y ∷ ys) all =
        ap (λ b. b || list_any (eq_by_cmp nat_cmp x) ys) all.0 ∙ none_of x ys all.1

-- If each number that compares as equal to the inserted number is already a member, the insertion
-- adds no member.
same_or : (tie there : Bool) → (tie ≡ true → there ≡ true) → there ≡ (tie || there)
same_or tie there tied = search rules

-- Inserting a number that is already a member doesn't change a set.
pub insert-there : (s : set.FinSet nat_cmp) (k : ℕ) → set.contains s k ≡ true → s ≡ set.insert s k
insert-there s k there =
    set.same_set nat_cmp_total set.nat_cmp-IsAntisymmetric _ _ (λ q.
    same_or (eq_by_cmp nat_cmp q k) (set.contains s q)
    (λ tie. sym (set.contains_tied nat_cmp_total s q k ((Equal-is (nat_cmp q k)).0 tie)) ∙ there)
    ∙ sym (set.contains-insert nat_cmp_total s k q))

-- A number is a member of the set of a list exactly if a search of the list finds the number.
pub contains-found : (xs : List ℕ) (x : ℕ)
    → set.contains (set.from_list {R = nat_cmp} xs) x ≡ list_any (λ y. eqb y x) xs
contains-found xs x = set.contains-from_list_nat xs x

-- In this part, `x` is a number that the list `xs` doesn't have.
module _ (xs : List ℕ) (x : ℕ) (new : list_any (λ y. eqb y x) xs ≡ false) where
  -- The set of the numbers in `xs` doesn't have `x`.
  absent : set.contains (set.from_list {R = nat_cmp} xs) x ≡ false
  absent = contains-found xs x ∙ new

  -- If the numbers in `xs` are different, they are still different after `x` is appended.
  pub distinct-push : IsDistinct (eq_by_cmp nat_cmp) xs
      → IsDistinct (eq_by_cmp nat_cmp) (xs ++ x ∷ [])
  distinct-push apart =
      IsDistinct-push (eq_by_cmp_equiv nat_cmp_total) xs x apart
      (sym (set.contains-from_list nat_cmp_total xs x) ∙ absent)

  -- Appending `x` to `xs` and taking the set gives the same as inserting `x` into the set of `xs`.
  pub set-push : set.from_list {R = nat_cmp} (xs ++ x ∷ []) ≡ set.insert (set.from_list xs) x
  set-push = set.from_list_push nat_cmp_total set.nat_cmp-IsAntisymmetric xs x

  -- If the numbers in `xs` are different, inserting `x` into their set gives a set with `length xs
  -- + 1` members.
  pub len-push : IsDistinct (eq_by_cmp nat_cmp) xs
      → set.len (set.insert (set.from_list {R = nat_cmp} xs) x) ≡ length xs + 1
  len-push apart =
      set.len-insert nat_cmp_total (set.from_list {R = nat_cmp} xs) x
      ∙ ap
      (λ b. cond b (set.len (set.from_list {R = nat_cmp} xs)) (set.len (set.from_list {R = nat_cmp} xs) + 1)) absent
      ∙ ap (λ n. n + 1) (len-from_distinct xs apart)

-- The two routers of a link are inserted into a set. If the set has more than 1,024 routers after
-- the first insertion, it has more than 1,024 routers after both insertions.
pub full-first : (s : set.FinSet nat_cmp) (l : Link) → 1024 < set.len (set.insert s l.from)
    → 1024 < set.len (set.insert (set.insert s l.from) l.to)
full-first s l full = omega (arith, full, len-insert-le (set.insert s l.from) l.to)

-- The routers of the untouched links are added to a set, link by link. If the set has more than
-- 1,024 routers after the routers of the link `l` are added, the set has more than 1,024 routers
-- after all are added.
pub full-row : (s old : set.FinSet nat_cmp) (l : Link) (rows : List Link) (cs : List Change) (i : ℕ)
    → i < length rows → l ≡ slice_index_or rows i l → true ≡ is_untouched cs l
    → with_ends s (rows_untouched (drop i rows) cs) ≡ with_ends old (rows_untouched rows cs)
    → 1024 < set.len (with_ends s (l ∷ [])) → 1024 < set.len (with_ends old (rows_untouched rows cs))
full-row s old l rows cs i within read left same full = grind (arith, common_steps, at_drop_more, len-with_ends-le, rows_untouched, with_ends)

-- The routers of the links that the changes put are added to a set, link by link. If the set has
-- more than 1,024 routers after the routers of the link `l` are added, the set has more than 1,024
-- routers after all are added.
pub full-put : (s old : set.FinSet nat_cmp) (c : Change) (l : Link) (cs : List Change) (i : ℕ)
    → i < length cs → c ≡ slice_index_or cs i c → c ≡ Put l
    → with_ends s (links_put (drop i cs)) ≡ with_ends old (links_put cs)
    → 1024 < set.len (with_ends s (l ∷ [])) → 1024 < set.len (with_ends old (links_put cs))
full-put s old c l cs i within read is same full = grind (arith, common_steps, at_drop_more, len-with_ends-le, links_put, with_ends)

-- If a list has a number at an index below `n`, a search of its first `n` items finds this number.
pub found_at : (xs : List ℕ) (n at x : ℕ) → at < n → n ≤ length xs → slice_index xs at ≡ x → list_any (λ y. eqb y x) (take n xs) ≡ true
found_at xs n at x h le is = search (rules, eq-eqb, get_or-take, get_or_default, length-take-le, list_any-from_Any)
