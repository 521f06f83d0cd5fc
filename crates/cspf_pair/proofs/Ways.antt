-- What holds of each way if no link and no router has an excess.
use Rattle.std.proofs.Common.{◌≡◌, ℕ, suc, zero, Bool, true, false, ◌<◌, ◌≤◌, Some, List, [], ◌∷◌, All, Contains, nat_eq, slice_get, sum_by, refl, sym, ap, subst, ◌∙◌, arith}
use Rattle.std.proofs.lemmas.Bool.{eqb-true}
use Rattle.std.proofs.lemmas.List.Elements.{All-contains, All-head, All-tail, All-weaker, Contains-append_right}
use Rattle.std.proofs.lemmas.List.Sums.{sum_by-cons}
use Rattle.std.proofs.lemmas.Option.{slice_get-get_or, none-some, same_Some}
use Rattle.cspf_model.specs.declared.link.Link.{Link}
use Rattle.cspf_model.specs.declared.request.Request.{Request}
use Rattle.cspf_model.specs.Database.{Database, IsLinkOf, IsRouterOf, link_at}
use Rattle.cspf_model.specs.Walks.{routers_passed}
use Rattle.cspf_pair.specs.Pairs.{IsWay}
use Rattle.cspf_pair.specs.Potentials.{Potentials, Weights, BoundsExcess, MayBeUsed, by_link, by_router, have_same_key, link_excess, router_excess, weight_of, without_weight, one_if}
use Rattle.cspf_pair.specs.PotentialLaws.{IsWayByPotentials}
use Rattle.cspf_pair.proofs.Bounds.{links_used, routers_known, same_key, way_bound}

-- An item of a list is at most the sum over the list.
item_in_sum : {X : Type 0} (f : X → ℕ) (rows : List X) (x : X) (k : ℕ) → slice_get rows k ≡ Some x → f x ≤ sum_by f rows
item_in_sum f [] x k found = absurd (none-some x found)
item_in_sum f (r ∷ rows) x zero found =
    let first = sum_by-cons f r rows in
    let same = ap f (same_Some r x found) in
    omega (arith, first, same)
item_in_sum f (r ∷ rows) x (suc k) found =
    let first = sum_by-cons f r rows in
    let rest = item_in_sum f rows x k found in
    omega (arith, first, rest)

-- If the sum over a list is 0, the sum over some of its items, even repeated ones, is 0.
none_of : {X : Type 0} (f : X → ℕ) (rows xs : List X) → sum_by f rows ≡ 0 → All (Contains rows) xs → sum_by f xs ≡ 0
none_of f rows [] none all = refl
none_of f rows (x ∷ xs) none all =
    let has = All-head (Contains rows) x xs all in
    let found : slice_get rows has.0 ≡ Some x = slice_get-get_or rows has.0 x has.1 ∙ ap Some has.2 in
    let here = item_in_sum f rows x has.0 found in
    let rest = none_of f rows xs none (All-tail (Contains rows) x xs all) in
    let first = sum_by-cons f x xs in
    omega (arith, here, rest, first, none)

-- A list with a positive sum over a test has an item that passes the test.
tested : {X : Type 0} (p : X → Bool) (xs : List X) → 0 < sum_by (λ x. one_if (p x)) xs → (x : X) × Contains xs x × (p x ≡ true)
tested p [] some = absurd (omega (arith, some))
tested p (x ∷ xs) some =
    let first = sum_by-cons (λ z. one_if (p z)) x xs in
    elim (p x) as (λ b. p x ≡ b → (z : _) × Contains (x ∷ xs) z × (p z ≡ true)) [
      | true ↦ λ e. (x, (0, omega arith, refl), e)
      | false ↦ λ e.
          (let none = ap one_if e in
          let rest = tested p xs (omega (arith, some, first, none)) in
          (rest.0, Contains-append_right (x ∷ []) xs rest.0 rest.1, rest.2))
    ] refl

no_weight : {X : Type 0} (xs : List X) → sum_by (λ _. 0) xs ≡ 0
no_weight [] = refl
no_weight (x ∷ xs) = let first = sum_by-cons (λ _. 0) x xs in let rest = no_weight xs in omega (arith, first, rest)

module _ (d : Database) (q : Request) (y : Potentials) (up : y.leaving q.from < y.arriving q.to) where
  -- If there is no excess, each way has a weight.
  has_weight : (w : Weights) → BoundsExcess d q y w 0 → (way : List Link) → IsWay d q way → 0 < weight_of w way
  has_weight w bounds way is =
      let bound = way_bound y w d q way is in
      let sum = bounds.sum in
      let links =
      none_of (link_excess y w) bounds.links way (omega (arith, sum))
      (All-weaker (MayBeUsed d q) (Contains bounds.links) bounds.each_link way (links_used d q way is)) in
      let routers =
      none_of (router_excess y w) bounds.routers (routers_passed way) (omega (arith, sum))
      (All-weaker (IsRouterOf d) (Contains bounds.routers) bounds.each_router (routers_passed way) (routers_known d q way is)) in
      omega (arith, bound, links, routers, up)

  no_ways : BoundsExcess d q y without_weight 0 → (way : List Link) → ¬ IsWay d q way
  no_ways bounds way is =
      let some = has_weight without_weight bounds way is in
      let first = no_weight way in
      let second = no_weight (routers_passed way) in
      omega (arith, some, first, second)

  by_one_link : (l : Link) → IsLinkOf d l → BoundsExcess d q y (by_link l) 0 → (way : List Link) → IsWay d q way → Contains way l
  by_one_link l of bounds way is =
      let some = has_weight (by_link l) bounds way is in
      let second = no_weight (routers_passed way) in
      let found = tested (have_same_key l) way (omega (arith, some, second)) in
      let used = All-contains (MayBeUsed d q) way found.0 (links_used d q way is) found.1 in
      let same : found.0 ≡ l =
      same_Some found.0 l (sym used.admissible.link ∙ ap (link_at d) (sym (same_key l found.0 found.2)) ∙ of) in
      subst (Contains way) same found.1

  through_one_router : (router : ℕ) → BoundsExcess d q y (by_router router) 0 → (way : List Link) → IsWay d q way → Contains (routers_passed way) router
  through_one_router router bounds way is =
      let some = has_weight (by_router router) bounds way is in
      let first = no_weight way in
      let found = tested (nat_eq router) (routers_passed way) (omega (arith, some, first)) in
      subst (Contains (routers_passed way)) (sym (eqb-true router found.0 found.2)) found.1

pub ways_by_excess : IsWayByPotentials
ways_by_excess d q y up = record {
  none = no_ways d q y up;
  link = by_one_link d q y up;
  router = through_one_router d q y up;
}
