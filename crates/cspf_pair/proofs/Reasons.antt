-- Why there is no pair, and how the two kinds of pairs are related.
use Rattle.std.proofs.Common.{◌≡◌, ◌+◌, List, ◌∷◌, ◌++◌, subst, AllPairs, Contains, length, slice_index_or, refl, ◌∙◌, arith}
use Rattle.std.proofs.lemmas.List.{get_or_append_left, get_or-append-add, length-append}
use Rattle.cspf_model.specs.Walks.{routers_passed}
use Rattle.cspf_pair.specs.Pairs.{AreDifferent, AreOfTwoCircuits}
use Rattle.cspf_pair.specs.Laws.{ArePairsByCircuits, IsNoPairByLink, IsNoPairByRouter}
use Rattle.cspf_pair.proofs.DistinctSums.{AllPairs-tail}

-- If two lists have the same item, some pair of their items is equal.
met : {X : Type 0} (R : X → X → Type 0) (xs ys : List X) (x : X) → Contains xs x → Contains ys x → AllPairs R (xs ++ ys) → R x x
met R xs ys x first second pairs =
    let here : slice_index_or (xs ++ ys) first.0 x ≡ x = get_or_append_left xs ys x first.0 first.1 ∙ first.2 in
    let there : slice_index_or (xs ++ ys) (length xs + second.0) x ≡ x = get_or-append-add xs ys second.0 x ∙ second.2 in
    let long = length-append xs ys in
    let related = pairs first.0 (length xs + second.0) x (omega (arith, first.1)) (omega (arith, long, second.1)) in
    subst (λ a. R a x) here (subst (R (slice_index_or (xs ++ ys) first.0 x)) there related)

pub no_pair_by_link : IsNoPairByLink
no_pair_by_link d q kind l each one other pair =
    (met AreOfTwoCircuits one other l (each one pair.first_way) (each other pair.second_way) pair.circuits).keys refl

pub no_pair_by_router : IsNoPairByRouter
no_pair_by_router d q router each one other pair =
    let both = routers_passed one ++ routers_passed other in
    met AreDifferent (routers_passed one) (routers_passed other) router (each one pair.first_way) (each other pair.second_way)
    (AllPairs-tail AreDifferent q.to both (AllPairs-tail AreDifferent q.from (q.to ∷ both) pair.routers)) refl

pub pairs_by_circuits : ArePairsByCircuits
pairs_by_circuits d q one other pair = record { first_way = pair.first_way; second_way = pair.second_way; circuits = pair.circuits; routers = tt }
