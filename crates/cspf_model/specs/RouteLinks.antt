-- What holds of the links of a route, and when a route visits a router twice.
use Rattle.std.specs.Prelude.{◌≡◌, ℕ, ◌<◌, ◌≤◌, ◌^◌, List, [], ◌∷◌, length, nat_eq}
use Rattle.std.specs.List.{IsDistinct}
use Rattle.cspf_model.specs.declared.limits.TheConstants.{MOST_ROUTE_LINKS}
use Rattle.cspf_model.specs.declared.link.Link.{Link}
use Rattle.cspf_model.specs.Walks.{AreJoined, cost_of, routers_of}

-- Each link begins where the link before it ends.
abbrev pub AreLinked : List Link → Type 0
AreLinked [] = Unit {0}
AreLinked (l ∷ ls) = AreJoined l.from (l ∷ ls)

-- The router at which the first link begins, followed by the router at which each link ends.
abbrev pub routers_on : List Link → List ℕ
routers_on [] = []
routers_on (l ∷ ls) = routers_of l.from (l ∷ ls)

-- The list `routers_on links` has some router twice.
abbrev pub VisitsTwice : List Link → Type 0
VisitsTwice links = ¬ IsDistinct nat_eq (routers_on links)

-- There are 1 to `MOST_ROUTE_LINKS` links, each of which begins where the link before it ends.
-- `kept` is the cost of the links, which is below 2^45.
pub record IsKept (links : List Link) (kept : ℕ) : Type 0 where
  pub some : 0 < length links
  pub most : length links ≤ MOST_ROUTE_LINKS
  pub linked : AreLinked links
  pub cost : kept ≡ cost_of links
  pub small : kept < 2 ^ 45
