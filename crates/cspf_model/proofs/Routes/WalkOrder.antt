-- The order of walks is total, and no two different routes of a request compare as equal.
use Rattle.std.proofs.Common.{◌≡◌, ◌≢◌, ℕ, Some, List, [], ◌∷◌, length, refl, sym, ap, subst, ◌∙◌, rules}
use Rattle.std.specs.Ordering.{ordering_then, ordering_reverse}
use Rattle.std.specs.declared.cmp.Ordering.{Ordering}
use Rattle.std.specs.declared.cmp.Ordering.TheVariants.{Less, Equal}
use Rattle.std.specs.Cmp.{IsTotalOrder, nat_cmp_total}
use Rattle.std.specs.Cmp.Lexicographic.{nat_list_cmp_total}
use Rattle.std.specs.List.{AllByRecursion}
use Rattle.std.specs.FinMap.{nat_cmp-IsAntisymmetric, slice_cmp-IsAntisymmetric}
use Rattle.std.proofs.lemmas.Cmp.{then_total, on_total}
use Rattle.cspf_model.specs.declared.link.Link.{Link}
use Rattle.cspf_model.specs.declared.request.Request.{Request}
use Rattle.cspf_model.specs.Database.{Database, key_of, link_at}
use Rattle.cspf_model.specs.Admissible.{IsAdmissible}
use Rattle.cspf_model.specs.Walks.{AreJoined, cost_of, locals_of, walk_cmp}
use Rattle.cspf_model.specs.Best.{IsBestRoute}
use Rattle.cspf_model.specs.Laws.{WalksAreTold, RoutesAreRanked, OneBestAnswer}

-- The order of walks is total.
pub walks_total : IsTotalOrder walk_cmp
walks_total =
    then_total (on_total cost_of nat_cmp_total)
    (then_total (on_total (λ (walk : List Link). length walk) nat_cmp_total) (on_total locals_of nat_list_cmp_total))

-- Two lists of admissible links are joined and begin at the same router. If the lists have the same
-- local addresses in the same order, the lists are equal.
one_walk : (d : Database) (q : Request) (router : ℕ) (v w : List Link)
    → AllByRecursion (IsAdmissible d q) v → AllByRecursion (IsAdmissible d q) w → AreJoined router v
    → AreJoined router w → locals_of v ≡ locals_of w → v ≡ w
one_walk d q router [] [] all also joined too same = refl
one_walk d q router (l ∷ ls) (m ∷ ms) all also joined too same =
    let local : l.local ≡ m.local = cc in
    let rest : locals_of ls ≡ locals_of ms = cc in
    let keys : key_of l ≡ key_of m = λ i. ((joined.0 ∙ sym too.0) i, local i) in
    let found : Some l ≡ Some m = sym all.0.link ∙ ap (link_at d) keys ∙ also.0.link in
    let first : l ≡ m = same_Some l m found in
    λ i. first i ∷ one_walk d q l.to ls ms all.1 also.1 joined.1 (subst (λ r. AreJoined r ms) (sym (ap (λ (n : Link). n.to) first)) too.1) rest i
  where
    same_Some : (x y : Link) → Some x ≡ Some y → x ≡ y
    same_Some x y e = cc
one_walk d q router v w all also joined too same = absurd (cc)

-- Two walks of one request are equal if their links have the same local addresses in the same
-- order.
pub walks_told : WalksAreTold
walks_told d q v w is also same =
    one_walk d q q.from v w is.links also.links is.joined also.joined same

-- If `ordering_then` of two comparisons gives `Equal`, the second comparison gives `Equal`.
last_tie : (a b : Ordering) → ordering_then a b ≡ Equal → b ≡ Equal
last_tie a b e = search rules

-- Two routes of the same request that compare as equal are equal.
pub routes_ranked : RoutesAreRanked
routes_ranked = search (rules, last_tie, nat_cmp-IsAntisymmetric, slice_cmp-IsAntisymmetric, walks_told)

-- If neither of two walks precedes the other, the walks compare as equal.
neither_first : (a b : Ordering) → a ≡ ordering_reverse b → a ≢ Less → b ≢ Less → a ≡ Equal
neither_first a b e first second = search rules

-- A request has at most one best route.
pub one_best : (d : Database) (q : Request) (v w : List Link) → IsBestRoute d q v
    → IsBestRoute d q w → v ≡ w
one_best d q v w is also =
    routes_ranked d q v w is.is_route also.is_route
    (neither_first (walk_cmp v w) (walk_cmp w v) (walks_total.antisymm v w) (also.least v is.is_route) (is.least w also.is_route))

-- A request has at most one best answer.
pub one_answer : OneBestAnswer
one_answer = search (rules, one_best)
