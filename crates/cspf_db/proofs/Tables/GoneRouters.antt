-- Lemmas on routers that have no links after the changes, and on routers that the changes bring.
use Rattle.std.proofs.Common.{◌≡◌, ℕ, suc, ◌+◌, ◌<◌, ◌⊎◌, inl, inr, Contains, take, ◌++◌, Bool, true, false, ◌&&◌, ◌||◌, cond, List, [], ◌∷◌, filter, length, nat_eq, slice_index, slice_index_or, refl, sym, ap, ◌∙◌, arith, rules}
use Rattle.std.proofs.lemmas.Grind.{common_steps}
use Rattle.std.specs.List.{list_any}
use Rattle.std.specs.Cmp.{nat_cmp_total}
use Rattle.std.specs.FinSet as set
use Rattle.std.specs.Ordering.{nat_cmp, eq_by_cmp}
use Rattle.std.proofs.lemmas.List.{get_or-map, take_more}
use Rattle.std.proofs.lemmas.List.Elements.{All-contains, All-weaker, filter_map-append}
use Rattle.cspf_model.specs.declared.link.Link.{Link}
use Rattle.cspf_model.specs.declared.batch.Change.{Change}
use Rattle.cspf_model.specs.declared.batch.Change.TheVariants.{Put, Remove, Node}
use Rattle.cspf_model.specs.Changes.{link_left}
use Rattle.cspf_model.specs.Database.{ends_of}
use Rattle.cspf_model.specs.Lemmas.CountedEnds.{with_ends, BringsAtMost, BringsBeside}
use Rattle.cspf_model.specs.Lemmas.GoneRouters.{is_at, puts_at}
use Rattle.cspf_columns.specs.Rows.{AreEndsOf, AreRising}
use Rattle.cspf_model.specs.Lemmas.RowsLeft.{is_untouched, rows_untouched, links_put}
use Rattle.cspf_model.proofs.Databases.EndCounts.{any-ends_of, contains-with_ends, one_end, or_right, with_ends-append}
use Rattle.cspf_columns.proofs.EndColumn.{length-ends}
use Rattle.cspf_columns.proofs.RouterPlaces.{one_place}

-- Testing the changes (`puts_at`) gives the same result as testing the links that the changes put
-- (`is_at`).
pub puts_there : (router : ℕ) (cs : List Change) → list_any (puts_at router) cs ≡ list_any (is_at router) (links_put cs)
puts_there router [] = refl
puts_there router (Put l ∷ cs) = ap (λ b. is_at router l || b) (puts_there router cs)
puts_there router (Remove from local ∷ cs) = puts_there router cs
puts_there router (Node r transit ∷ cs) = puts_there router cs

-- One of the rows (links) that the filter `q` keeps passes the test `p` exactly if one of all rows
-- passes both `q` and `p`.
any_both : (p q : Link → Bool) (rows : List Link) → list_any p (filter q rows) ≡ list_any (λ l. q l && p l) rows
any_both p q [] = refl
any_both p q (l ∷ rows) =
    elim (q l) as (λ b. list_any p (cond b (l ∷ filter q rows) (filter q rows)) ≡ ((b && p l) || list_any (λ m. q m && p m) rows)) [ true ↦ ap (λ b. p l || b) (any_both p q rows) | false ↦ any_both p q rows ]

neither : (a b : Bool) → (a || b) ≡ false → (a ≡ false) × (b ≡ false)
neither a b off = search rules

-- If no row (a link) passes a test, the test is false for the row at each index.
none_at : (p : Link → Bool) (rows : List Link) → list_any p rows ≡ false → (k : ℕ) (d : Link) → k < length rows → p (slice_index_or rows k d) ≡ false
none_at p rows off k d h = grind (arith, common_steps, neither)

none_from : (p : Link → Bool) (rows : List Link) → ((k : ℕ) (d : Link) → k < length rows → p (slice_index_or rows k d) ≡ false) → list_any p rows ≡ false
none_from p [] none = refl
none_from p (l ∷ rows) none = ap (λ b. b || list_any p rows) (none 0 l (omega arith)) ∙ none_from p rows (λ k d h. none (suc k) d (omega (arith, h)))

all_three : (u f t : Bool) → (f && u) ≡ false → (t && u) ≡ false → (u && (f || t)) ≡ false
all_three u f t from to = search rules

-- If the changes affect each row (a link) that begins or ends at the router with the index `place`,
-- no untouched row begins or ends at this router.
pub nothing_left : (rows : List Link) (routers ends : List ℕ) (cs : List Change) (place : ℕ) → AreRising routers → AreEndsOf rows routers ends → place < length routers
    → list_any (is_untouched cs) (filter (λ l. nat_eq l.from (slice_index routers place)) rows) ≡ false
    → ((at : ℕ) (d : Link) → at < length rows → (nat_eq (slice_index ends at) place && is_untouched cs (slice_index_or rows at d)) ≡ false)
    → list_any (is_at (slice_index routers place)) (rows_untouched rows cs) ≡ false
nothing_left rows routers ends cs place rising are within no_from no_to =
    let router = slice_index routers place in
    let u : Link → Bool = is_untouched cs in
    any_both (is_at router) u rows
    ∙ none_from (λ l. u l && is_at router l) rows (λ k d h.
    let l = slice_index_or rows k d in
    let there : k < length ends = omega (arith, h, length-ends rows routers ends are) in
    let end : slice_index routers (slice_index ends k) ≡ l.to = sym (get_or-map (λ e. slice_index routers e) ends k 0 0 there) ∙ ap (λ ns. slice_index ns k) are.each ∙ get_or-map (λ (m : Link). m.to) rows k d 0 h in
    let same : nat_eq (slice_index ends k) place ≡ nat_eq l.to router = sym (one_place routers rising (slice_index ends k) place (are.within k 0 there) within) ∙ ap (λ n. nat_eq n router) end in
    all_three (u l) (nat_eq l.from router) (nat_eq l.to router) (none_at (λ m. nat_eq m.from router && u m) rows (sym (any_both u (λ m. nat_eq m.from router) rows) ∙ no_from) k d h)
    (ap (λ b. b && u l) (sym same) ∙ no_to k d h))

-- A change that puts the link `l` brings at most `m + n` new routers. `m` may be 0 if `l.from`
-- isn't new: `routers` has it, or one of the changes `others` puts a link at it. `n` may be 0 if
-- `l.to` isn't new.
pub brings_beside : (routers : List ℕ) (others : List Change) (l : Link) (m n : ℕ) → (m ≡ 0 → Contains routers l.from ⊎ (list_any (puts_at l.from) others ≡ true))
    → (n ≡ 0 → Contains routers l.to ⊎ (list_any (puts_at l.to) others ≡ true)) → BringsBeside routers others (Put l) (m + n)
brings_beside routers others l m n from to s inside put =
    let there : (r : ℕ) → Contains routers r ⊎ (list_any (puts_at r) others ≡ true) → set.contains s r ≡ true = λ r known. elim known [ inl among ↦ All-contains (λ q. set.contains s q ≡ true) routers r inside among | inr on ↦ put r on ] in
    omega
    (arith, one_end s l.from m (λ e. there l.from (from e)), one_end (set.insert s l.from) l.to n (λ e. set.contains-insert nat_cmp_total s l.from l.to ∙ or_right (eq_by_cmp nat_cmp l.to l.from) _ (there l.to (to e))))

-- Suppose that the first `at` changes bring at most `m` new routers, and that the next change
-- brings at most `n` further new routers. Then the first `at + 1` changes bring at most `m + n` new
-- routers.
pub brings_once : (routers : List ℕ) (cs : List Change) (at : ℕ) (c : Change) (m n : ℕ) → at < length cs → c ≡ slice_index_or cs at c → BringsAtMost routers (take at cs) m → BringsBeside routers (take at cs) c n
    → BringsAtMost routers (take (at + 1) cs) (m + n)
brings_once routers cs at c m n h read first second s inside =
    let before : List Link = links_put (take at cs) in
    let grown : set.FinSet nat_cmp = with_ends s before in
    let both : links_put (take (at + 1) cs) ≡ before ++ links_put (c ∷ []) =
    ap links_put (take_more cs at c h ∙ ap (λ b. take at cs ++ b ∷ []) (sym read)) ∙ filter_map-append link_left (take at cs) (c ∷ []) in
    omega (
      arith,
      first s inside,
      second grown (All-weaker (λ r. set.contains s r ≡ true) (λ r. set.contains grown r ≡ true) (λ r is. contains-with_ends s before r ∙ ap (λ b. b || list_any (eq_by_cmp nat_cmp r) (ends_of before)) is) routers inside)
          (λ r on. contains-with_ends s before r
          ∙ or_right (set.contains s r) _ (sym (set.contains-from_list nat_cmp_total (ends_of before) r) ∙ set.contains-from_list_nat (ends_of before) r ∙ any-ends_of (λ y. nat_eq y r) before ∙ sym (puts_there r (take at cs)) ∙ on)),
      ap set.len (with_ends-append s before (links_put (c ∷ []))),
      ap (λ ls. set.len (with_ends s ls)) both,
    )
