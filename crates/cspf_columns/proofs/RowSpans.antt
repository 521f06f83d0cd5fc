-- Lemmas on the range of the rows (links) that begin at a router.
use Rattle.std.proofs.Common.{◌≡◌, ℕ, ◌+◌, ◌-◌, ◌<◌, ◌≤◌, Bool, true, false, cond, List, [], ◌∷◌, ◌++◌, All, length, take, drop, get_or, ltb, leb, nat_eq, slice_range, refl, sym, ap, ◌∙◌, arith, rules}
use Rattle.std.specs.List.{filter, between}
use Rattle.std.specs.List.Sorted.{IsPartitionPoint, IsNonDecreasingBy}
use Rattle.std.proofs.lemmas.Bool.{cases_lt}
use Rattle.std.proofs.lemmas.Bool.Decides.{nat_tests}
use Rattle.std.proofs.lemmas.List.{get_or_read, get_or-take, get_or-drop, length-take, length-drop, append-nil}
use Rattle.std.proofs.lemmas.List.Edits.{split_between, length-between, get_or-between}
use Rattle.std.proofs.lemmas.List.Elements.{filter-append, All-tail, All-head}
use Rattle.cspf_model.specs.declared.link.Link.{Link}

-- if no item passes the test, the filter keeps nothing
pub none_kept : (p : Link → Bool) (rows : List Link) → All (λ l. p l ≡ false) rows → filter p rows ≡ []
none_kept p [] all = refl
none_kept p (l ∷ rows) all = ap (λ b. cond b (l ∷ filter p rows) (filter p rows)) (All-head (λ m. p m ≡ false) l rows all) ∙ none_kept p rows (All-tail (λ m. p m ≡ false) l rows all)

-- if all items pass the test, the filter keeps all items
pub all_kept : (p : Link → Bool) (rows : List Link) → All (λ l. p l ≡ true) rows → filter p rows ≡ rows
all_kept p [] all = refl
all_kept p (l ∷ rows) all = ap (λ b. cond b (l ∷ filter p rows) (filter p rows)) (All-head (λ m. p m ≡ true) l rows all) ∙ ap (λ ls. l ∷ ls) (all_kept p rows (All-tail (λ m. p m ≡ true) l rows all))

apart_below : (m r : ℕ) → ltb m r ≡ true → nat_eq m r ≡ false
apart_below m r low = grind (arith, nat_tests)

apart_above : (m r : ℕ) → leb m r ≡ false → nat_eq m r ≡ false
apart_above m r high = grind (arith, nat_tests)

same_between : (m r : ℕ) → ltb m r ≡ false → leb m r ≡ true → nat_eq m r ≡ true
same_between m r low high = grind (arith, nat_tests)

crossed : {A : Type 0} (m r : ℕ) → ltb m r ≡ true → leb m r ≡ false → A
crossed m r low high = absurd (grind (arith, nat_tests))

module _ (rows : List Link) (router first end : ℕ) (in_first : first ≤ length rows) (in_end : end ≤ length rows)
    (low : IsPartitionPoint (λ l. ltb l.from router ≡ true) (λ l. ltb l.from router ≡ false) rows first)
    (high : IsPartitionPoint (λ l. leb l.from router ≡ true) (λ l. leb l.from router ≡ false) rows end) where
  -- the index at which the range begins isn't above the index at which it ends
  pub span_in_order : first ≤ end
  span_in_order = elim (leb first end) as (λ b. leb first end ≡ b → first ≤ end) [ true ↦ λ e. grind (arith, nat_tests) | false ↦ λ e. at_end rows refl (grind (arith, nat_tests)) ] refl
    where
      at_end : (ls : List Link) → ls ≡ rows → end < first → first ≤ end
      at_end [] e off = absurd (omega (arith, ap length e))
      at_end (l ∷ ls) e off = crossed (get_or rows end l).from router (low.0 end l (omega arith) off) (high.1 end l (omega arith) (omega arith))

  -- the range has exactly the rows (links) that begin at the router
  pub filter-span : slice_range rows first end ≡ filter (λ l. nat_eq l.from router) rows
  filter-span =
      let p : Link → Bool = λ l. nat_eq l.from router in
      let order = span_in_order in
      let before : All (λ l. p l ≡ false) (take first rows) = λ k d h.
      let within : k < first = omega (arith, h, length-take first rows) in
      ap p (get_or-take first rows k d within) ∙ apart_below (get_or rows k d).from router (low.0 k d (omega arith) within) in
      let inside : All (λ l. p l ≡ true) (between first end rows) = λ k d h.
      let within : first + k < end = omega (arith, h, length-between rows first end in_end, order) in
      ap p (get_or-between rows first end k d within)
      ∙ same_between (get_or rows (first + k) d).from router (low.1 (first + k) d (omega arith) (omega (arith, within, in_end))) (high.0 (first + k) d (omega arith) within) in
      let behind : All (λ l. p l ≡ false) (drop end rows) = λ k d h.
      let within : end + k < length rows = omega (arith, h, length-drop end rows) in
      ap p (get_or-drop end rows k d) ∙ apart_above (get_or rows (end + k) d).from router (high.1 (end + k) d (omega arith) within) in
      sym (ap (filter p) (split_between rows first end order)
      ∙ filter-append p (take first rows) (between first end rows ++ drop end rows)
      ∙ ap (λ ls. ls ++ filter p (between first end rows ++ drop end rows)) (none_kept p (take first rows) before)
      ∙ filter-append p (between first end rows) (drop end rows)
      ∙ ap (λ ls. filter p (between first end rows) ++ ls) (none_kept p (drop end rows) behind)
      ∙ append-nil (filter p (between first end rows))
      ∙ all_kept p (between first end rows) inside)

lower : (m r : ℕ) → m < r → ltb m r ≡ true
lower m r h = grind (arith, nat_tests)

not_lower : (m r : ℕ) → r ≤ m → ltb m r ≡ false
not_lower m r h = grind (arith, nat_tests)

upto : (m r : ℕ) → m ≤ r → leb m r ≡ true
upto m r h = grind (arith, nat_tests)

not_upto : (m r : ℕ) → r < m → leb m r ≡ false
not_upto m r h = grind (arith, nat_tests)

-- Lemmas on a range of rows (links) that all begin at one router. The row that precedes the range
-- begins at a lower router, and the row that follows the range begins at a higher router. So the
-- range has all rows that begin at this router.
module _ (rows : List Link) (router first end : ℕ) (rises : IsNonDecreasingBy (λ l. l.from) rows) (order : first ≤ end) (bound : end ≤ length rows)
    (run : (k : ℕ) (d : Link) → first ≤ k → k < end → (get_or rows k d).from ≡ router) (low : 0 < first → (d : Link) → (get_or rows (first - 1) d).from < router)
    (high : end < length rows → (d : Link) → router < (get_or rows end d).from) where
  before : (k : ℕ) (d : Link) → k < first → (get_or rows k d).from < router
  before k d h = omega (arith, rises k (first - 1) d (omega (arith, h)) (omega (arith, h, order, bound)), low (omega (arith, h)) d)

  behind : (k : ℕ) (d : Link) → end ≤ k → k < length rows → router < (get_or rows k d).from
  behind k d past h = omega (arith, rises end k d past h, high (omega (arith, past, h)) d)

  pub filter-run : slice_range rows first end ≡ filter (λ l. nat_eq l.from router) rows
  filter-run = search (rules, before, behind, cases_lt, filter-span, lower, not_lower, not_upto, upto)

-- if the first and the last row (a link) of a range begin at one router, all rows of the range
-- begin at this router
pub run_between : (rows : List Link) (router first end : ℕ) (l m : Link) → IsNonDecreasingBy (λ l. l.from) rows → first < end → end ≤ length rows → l ≡ get_or rows first l → m ≡ get_or rows (end - 1) m → l.from ≡ router → m.from ≡ router
    → (k : ℕ) (d : Link) → first ≤ k → k < end → (get_or rows k d).from ≡ router
run_between rows router first end l m rises some bound reads also from to k d past h =
    let bottom : l.from ≡ (get_or rows first d).from = ap (λ (n : Link). n.from) (get_or_read rows first l (omega (arith, some, bound)) reads d) in
    let top : m.from ≡ (get_or rows (end - 1) d).from = ap (λ (n : Link). n.from) (get_or_read rows (end - 1) m (omega (arith, some, bound)) also d) in
    omega (arith, bottom, top, from, to, rises first k d past (omega (arith, h, bound)), rises k (end - 1) d (omega (arith, h)) (omega (arith, some, bound)))
