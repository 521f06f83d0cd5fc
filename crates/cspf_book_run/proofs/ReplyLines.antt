-- Each route has a line that answers the `place` row of a request.
use Rattle.std.proofs.Common.{◌≡◌, ◌⊎◌, ◌↔◌, ℕ, Bool, true, false, nat_eq, IsTrue, List, [], ◌∷◌, ◌++◌, codes, length, inl, inr, refl, sym, ◌∙◌}
use Rattle.std.proofs.lemmas.Bool.{cases_Bool, false≢true}
use Rattle.std.specs.Fmt.{decimal}
use Rattle.std.specs.List.{AllByRecursion, IsDistinct}
use Rattle.hex.specs.Hex.{encode_lower}
use Rattle.cspf_model.specs.Best.{route}
use Rattle.cspf_model.specs.RouteLinks.{routers_on}
use Rattle.cspf_model.specs.Walks.{cost_of}
use Rattle.cspf_model.specs.declared.link.Link.{Link}
use Rattle.cspf_ero.specs.Objects.{object_of}
use Rattle.cspf_ero.specs.ReplyLine.{IsRouteText, measures_text}
use Rattle.cspf_book_run.specs.BookLines.{IsPlaceReply}

apart_or_not : (x : ℕ) (xs : List ℕ) → AllByRecursion (λ y. nat_eq x y ≡ false) xs ⊎ (¬ AllByRecursion (λ y. nat_eq x y ≡ false) xs)
apart_or_not x [] = inl tt
apart_or_not x (y ∷ ys) = elim (cases_Bool (nat_eq x y)) [
  | inl same ↦ inr (λ all. false≢true (sym all.0 ∙ same))
  | inr other ↦ elim (apart_or_not x ys) [ inl rest ↦ inl (other, rest) | inr differs ↦ inr (λ all. differs all.1) ]
]

distinct_or_not : (xs : List ℕ) → IsDistinct nat_eq xs ⊎ (¬ IsDistinct nat_eq xs)
unfolding IsDistinct
distinct_or_not [] = inl tt
distinct_or_not (x ∷ xs) = elim (apart_or_not x xs) [
  | inl apart ↦ elim (distinct_or_not xs) [ inl rest ↦ inl (apart, rest) | inr differs ↦ inr (λ all. differs all.1) ]
  | inr meets ↦ inr (λ all. meets all.0)
]

tells : (P : Type 0) → P ⊎ (¬ P) → (again : Bool) × (IsTrue again ↔ (¬ P))
tells P (inl holds) = (false, (λ e. absurd (false≢true e), λ fails. absurd (fails holds)))
tells P (inr fails) = (true, (λ e. fails, λ f. refl))

route_text : (walk : List Link) → (text : List ℕ) × IsRouteText walk text
route_text walk =
    let again = tells (IsDistinct nat_eq (routers_on walk)) (distinct_or_not (routers_on walk)) in
    (measures_text (cost_of walk) (length walk) again.0 ++ encode_lower (object_of walk), record { again = again.0; twice = again.1; words = refl })

pub line_of_route : (id version : ℕ) (walk : List Link) → (line : List ℕ) × IsPlaceReply id version (route walk) line
line_of_route id version walk =
    let text = route_text walk in
    let rest : List ℕ = codes " " ++ decimal id ++ codes " v" ++ decimal version ++ codes " " ++ text.0 ++ codes "\n" in
    (codes "place" ++ rest, (rest, (text.0, text.1, refl), refl))
