-- Walks of admissible links, and the order of walks.
use Rattle.std.specs.Prelude.{◌≡◌, ℕ, List, [], ◌∷◌, map, length, sum_by}
use Rattle.std.specs.Ordering.{nat_cmp, ordering_then}
use Rattle.std.specs.declared.cmp.Ordering.{Ordering}
use Rattle.std.specs.Cmp.Lexicographic.{slice_cmp}
use Rattle.std.specs.List.{AllByRecursion}
use Rattle.cspf_model.specs.declared.link.Link.{Link}
use Rattle.cspf_model.specs.declared.request.Request.{Request}
use Rattle.cspf_model.specs.Database.{Database, HasTransit}
use Rattle.cspf_model.specs.Admissible.{IsAdmissible}

-- The links are joined: the first link begins at the router, and each other link begins where the
-- link before it ends.
abbrev pub AreJoined : ℕ → List Link → Type 0
AreJoined router [] = Unit {0}
AreJoined router (l ∷ ls) = (l.from ≡ router) × AreJoined l.to ls

-- The routers that the links pass through: those at which the second and all later links begin.
abbrev pub routers_passed : List Link → List ℕ
routers_passed [] = []
routers_passed (l ∷ ls) = map (λ m. m.from) ls

-- A walk of the request: admissible links that are joined, the first of which begins at the
-- head-end. The walk passes through no router that is marked as without transit, but it may begin
-- or end at such a router.
pub record IsWalk (d : Database) (q : Request) (walk : List Link) : Type 0 where
  pub links : AllByRecursion (IsAdmissible d q) walk
  pub joined : AreJoined q.from walk
  pub transit : AllByRecursion (HasTransit d) (routers_passed walk)

-- The router at which the links end, if they are joined and begin at `router`.
abbrev pub end_of : ℕ → List Link → ℕ
end_of router [] = router
end_of router (l ∷ ls) = end_of l.to ls

-- The routers that the links visit, including both ends, if the links are joined and begin at
-- `router`.
abbrev pub routers_of : ℕ → List Link → List ℕ
routers_of router links = router ∷ map (λ l. l.to) links

-- The sum of the links' metrics.
abbrev pub cost_of : List Link → ℕ
cost_of links = sum_by (λ l. l.metric) links

-- The local addresses of the links, in order.
abbrev pub locals_of : List Link → List ℕ
locals_of links = map (λ l. l.local) links

-- Walks are ordered by cost, and then by the number of links. If both are equal, the first link at
-- which the local addresses differ decides. Addresses compare as numbers.
abbrev pub walk_cmp : List Link → List Link → Ordering
walk_cmp a b =
    ordering_then (nat_cmp (cost_of a) (cost_of b))
    (ordering_then (nat_cmp (length a) (length b)) (slice_cmp nat_cmp (locals_of a) (locals_of b)))
