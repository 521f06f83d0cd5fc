-- A request with exclusions has one best answer, and more exclusions make its cost no lower.
use Rattle.std.proofs.Common.{◌≡◌, ◌≢◌, ◌<◌, ◌≤◌, List, [], ◌∷◌, length, inl, inr, refl, ap, subst, arith}
use Rattle.std.proofs.Math.Decide.{dec_le}
use Rattle.std.specs.Ordering.{nat_cmp, ordering_then}
use Rattle.std.specs.Cmp.{nat_cmp_is}
use Rattle.std.specs.Cmp.Lexicographic.{slice_cmp}
use Rattle.std.specs.List.{AllByRecursion, Contains}
use Rattle.std.specs.declared.cmp.Ordering.{Ordering}
use Rattle.std.specs.declared.cmp.Ordering.TheVariants.{Less}
use Rattle.cspf_model.specs.declared.link.Link.{Link}
use Rattle.cspf_model.specs.Database.{Database}
use Rattle.cspf_model.specs.Walks.{IsWalk, cost_of, locals_of, walk_cmp}
use Rattle.cspf_model.specs.Routes.{IsRoute}
use Rattle.cspf_model.specs.Best.{unknown_from, unknown_to, no_route, route, IsBestRoute}
use Rattle.cspf_model.proofs.Routes.WalkOrder.{one_best}
use Rattle.cspf_model.proofs.Routes.RoutesWithoutHops.{routes_without_hops}
use Rattle.cspf_exclusions.specs.declared.exclusion.Exclusion.{Exclusion}
use Rattle.cspf_exclusions.specs.Exclusions.{IsExcluded}
use Rattle.cspf_except.specs.ExceptLaws.{OneBestExcept, MoreCostNoLess}
use Rattle.cspf_exclusions.proofs.WithoutLinks.{one_without, walks_without}

pub one_best_except : OneBestExcept
one_best_except d q parts unknown_from unknown_from is also = refl
one_best_except d q parts unknown_from unknown_to is also = absurd (is also.0)
one_best_except d q parts unknown_from no_route is also = absurd (is also.0.from)
one_best_except d q parts unknown_from (route w) is also = absurd (is also.0.from)
one_best_except d q parts unknown_to unknown_from is also = absurd (also is.0)
one_best_except d q parts unknown_to unknown_to is also = refl
one_best_except d q parts unknown_to no_route is also = absurd (is.1 also.0.to)
one_best_except d q parts unknown_to (route w) is also = absurd (is.1 also.0.to)
one_best_except d q parts no_route unknown_from is also = absurd (also is.0.from)
one_best_except d q parts no_route unknown_to is also = absurd (also.1 is.0.to)
one_best_except d q parts no_route no_route is also = refl
one_best_except d q parts no_route (route w) (ends, (e, without, none)) (others, (f, also, best)) =
    absurd (none w (subst (λ x. IsRoute x q w) (one_without d f e parts also without) best.is_route))
one_best_except d q parts (route v) unknown_from is also = absurd (also is.0.from)
one_best_except d q parts (route v) unknown_to is also = absurd (also.1 is.0.to)
one_best_except d q parts (route v) no_route (ends, (e, without, best)) (others, (f, also, none)) =
    absurd (none v (subst (λ x. IsRoute x q v) (one_without d e f parts without also) best.is_route))
one_best_except d q parts (route v) (route w) (ends, (e, without, best)) (others, (f, also, least)) =
    ap route (one_best f q v w (subst (λ x. IsBestRoute x q v) (one_without d e f parts without also) best) least)

-- What exclusions exclude is also excluded by more exclusions.
more_excluded : (d : Database) (fewer more : List Exclusion) → ((part : Exclusion) → Contains fewer part → Contains more part)
    → (l : Link) → IsExcluded d fewer l → IsExcluded d more l
more_excluded d fewer more all l (inl (inl x)) = inl (inl (x.0, all x.0 x.1, x.2))
more_excluded d fewer more all l (inl (inr x)) = inl (inr (x.0, all x.0 x.1, x.2))
more_excluded d fewer more all l (inr (inl x)) = inr (inl (x.0, all x.0 x.1, x.2))
more_excluded d fewer more all l (inr (inr x)) = inr (inr (x.0, all x.0 x.1, x.2))

fewer_free : (d : Database) (fewer more : List Exclusion) → ((part : Exclusion) → Contains fewer part → Contains more part)
    → (walk : List Link) → AllByRecursion (λ l. ¬ IsExcluded d more l) walk → AllByRecursion (λ l. ¬ IsExcluded d fewer l) walk
fewer_free d fewer more all [] free = tt
fewer_free d fewer more all (l ∷ walk) free =
    ((λ x. free.0 (more_excluded d fewer more all l x)), fewer_free d fewer more all walk free.1)

-- If a walk doesn't precede another one, its cost isn't lower.
cost_no_less : (v w : List Link) → walk_cmp w v ≢ Less → cost_of v ≤ cost_of w
cost_no_less v w not_before = by (dec_le (cost_of v) (cost_of w))
  where
    by : Dec (cost_of v ≤ cost_of w) → cost_of v ≤ cost_of w
    by (yes le) = le
    by (no gt) =
        let lower : cost_of w < cost_of v = omega (arith, gt) in
        absurd (not_before (subst (λ (o : Ordering). ordering_then o (ordering_then (nat_cmp (length w) (length v)) (slice_cmp nat_cmp (locals_of w) (locals_of v))) ≡ Less)
        (nat_cmp_is (cost_of w) (cost_of v) Less lower) refl))

pub more_cost_no_less : MoreCostNoLess
more_cost_no_less d e f q fewer more v w none all without also best least =
    let walk = ((walks_without d f q more w also).0 (((routes_without_hops f q w none).0 least.is_route).is_walk)) in
    let there : IsWalk e q w = (walks_without d e q fewer w without).1 (walk.0, fewer_free d fewer more all w walk.1) in
    let arrives = ((routes_without_hops f q w none).0 least.is_route).arrives in
    let is_route : IsRoute e q w = (routes_without_hops e q w none).1 (record { is_walk = there; arrives = arrives }) in
    cost_no_less v w (best.least w is_route)
