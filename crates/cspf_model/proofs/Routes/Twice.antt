use Rattle.std.proofs.Common.{◌≡◌, ◌↔◌, ℕ, ◌+◌, ◌<◌, Bool, true, false, nat_eq, IsTrue, List, [], ◌∷◌, length, map, drop, slice_index_or, refl, sym, ap, ◌∙◌, arith}
use Rattle.std.specs.List.{AllByRecursion, IsDistinct, list_any}
use Rattle.std.proofs.lemmas.Bool.{or_parts, or_from, false≢true}
use Rattle.std.proofs.lemmas.List.{at_drop_more}
use Rattle.std.proofs.lemmas.Map.Keys.{IsDistinct-head, IsDistinct-tail, IsDistinct-cons}
use Rattle.cspf_model.specs.declared.link.Link.{Link}
use Rattle.cspf_model.specs.RouteLinks.{VisitsTwice}

-- Lemmas for the test whether a route visits a router twice.

abbrev pub ends : List Link → List ℕ
ends links = map (λ l. l.to) links

-- The next two lemmas: no link ends at the router exactly if each link ends at a different router.

pub clear : (router : ℕ) (links : List Link) → list_any (λ l. nat_eq router l.to) links ≡ false → AllByRecursion (λ y. nat_eq router y ≡ false) (ends links)
clear router [] e = tt
clear router (l ∷ ls) e = let parts = or_parts _ _ e in (parts.0, clear router ls parts.1)

pub none_ends : (router : ℕ) (links : List Link) → AllByRecursion (λ y. nat_eq router y ≡ false) (ends links) → list_any (λ l. nat_eq router l.to) links ≡ false
none_ends router [] all = refl
none_ends router (l ∷ ls) all = or_from _ _ all.0 (none_ends router ls all.1)

-- In this part, `l` is the link at the index `i`. In `passed`, no later link ends at the same
-- router as `l`. In `shared`, some later link does.
module _ (links : List Link) (i : ℕ) (within : i < length links) (l : Link) (is : l ≡ slice_index_or links i l)
    (whole : IsDistinct nat_eq (ends (drop i links)) ↔ IsDistinct nat_eq (ends links)) where
  behind : IsDistinct nat_eq (ends (drop i links)) ≡ IsDistinct nat_eq (l.to ∷ ends (drop (i + 1) links))
  behind = ap (λ ls. IsDistinct nat_eq (ends ls)) (at_drop_more (λ ls. ls) links i l within ∙ ap (λ (x : Link). x ∷ drop (i + 1) links) (sym is))

  pub passed : list_any (λ x. nat_eq l.to x.to) (drop (i + 1) links) ≡ false → IsDistinct nat_eq (ends (drop (i + 1) links)) ↔ IsDistinct nat_eq (ends links)
  passed e = (
    λ rest. whole.0 (coe 1 0 (k. behind k) (IsDistinct-cons nat_eq l.to (ends (drop (i + 1) links)) (clear l.to (drop (i + 1) links) e) rest)),
    λ all. IsDistinct-tail nat_eq l.to (ends (drop (i + 1) links)) (coe 0 1 (k. behind k) (whole.1 all)),
  )

  pub shared : list_any (λ x. nat_eq l.to x.to) (drop (i + 1) links) ≡ true → IsDistinct nat_eq (ends links) → ⊥
  shared e all =
      let head = IsDistinct-head nat_eq l.to (ends (drop (i + 1) links)) (coe 0 1 (k. behind k) (whole.1 all)) in
      false≢true (sym (none_ends l.to (drop (i + 1) links) head) ∙ e)

-- If a link ends at the router where the first link begins, the route visits that router twice.
pub meets_start : (links : List Link) (d : Link) → 0 < length links → list_any (λ l. nat_eq (slice_index_or links 0 d).from l.to) links ≡ true → VisitsTwice links
meets_start [] d some e = absurd (omega arith)
meets_start (l ∷ ls) d some e = λ all.
    let head = IsDistinct-head nat_eq l.from (ends (l ∷ ls)) all in
    false≢true (sym (none_ends l.from (l ∷ ls) head) ∙ e)

-- If no link ends at the router where the first link begins, the route visits a router twice
-- exactly if two links end at the same router.
pub meets_elsewhere : (links : List Link) (d : Link) → 0 < length links → list_any (λ l. nat_eq (slice_index_or links 0 d).from l.to) links ≡ false → (b : Bool)
    → IsTrue b ↔ (¬ IsDistinct nat_eq (ends links)) → IsTrue b ↔ VisitsTwice links
meets_elsewhere [] d some e b same = absurd (omega arith)
meets_elsewhere (l ∷ ls) d some e b same =
    let off = clear l.from (l ∷ ls) e in (
      λ t all. same.0 t (IsDistinct-tail nat_eq l.from (ends (l ∷ ls)) all),
      λ twice. same.1 (λ rest. twice (IsDistinct-cons nat_eq l.from (ends (l ∷ ls)) off rest)),
    )
