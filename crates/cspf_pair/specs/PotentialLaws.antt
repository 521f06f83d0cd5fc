-- Laws of potentials: what they say of all ways, and of all pairs.
use Rattle.std.specs.Prelude.{ℕ, ◌+◌, ◌*◌, ◌<◌, ◌≤◌, ◌^◌, List, Contains, length}
use Rattle.cspf_model.specs.declared.link.Link.{Link}
use Rattle.cspf_model.specs.declared.request.Request.{Request}
use Rattle.cspf_model.specs.Database.{Database, AreLinksOf, IsLinkOf}
use Rattle.cspf_model.specs.Walks.{routers_passed}
use Rattle.cspf_pair.specs.declared.kind.Kind.{Kind}
use Rattle.cspf_pair.specs.Pairs.{IsWay, IsPair, IsLeastPair}
use Rattle.cspf_pair.specs.Potentials.{Potentials, AreOfKind, BoundsExcess, by_link, by_router, by_size, weight_of, without_weight}

-- A pair has the least size if its weight, twice the potential of the head-end and the excess of all
-- links and routers together are at most twice the potential of the tail-end. The database has fewer
-- than 2^15 links.
abbrev pub IsLeastByPotentials : Type 0
IsLeastByPotentials =
    (d : Database) (q : Request) (kind : Kind) (y : Potentials) (total : ℕ) (rows : List Link)
    → AreLinksOf d rows → length rows < 2 ^ 15 → AreOfKind kind y → BoundsExcess d q y by_size total
    → (one other : List Link) → IsPair d q kind one other
    → weight_of by_size one + weight_of by_size other + 2 * y.leaving q.from + total ≤ 2 * y.arriving q.to
    → IsLeastPair d q kind one other

-- If no link and no router has an excess, and the potential of the tail-end is above that of the
-- head-end, there is no way by weights that are all 0. By the weights of one link each way has this
-- link, and by the weights of one router each way passes through this router.
pub record AreWaysBy (d : Database) (q : Request) (y : Potentials) : Type 0 where
  pub none : BoundsExcess d q y without_weight 0 → (way : List Link) → ¬ IsWay d q way
  pub link : (l : Link) → IsLinkOf d l → BoundsExcess d q y (by_link l) 0
      → (way : List Link) → IsWay d q way → Contains way l
  pub router : (router : ℕ) → BoundsExcess d q y (by_router router) 0
      → (way : List Link) → IsWay d q way → Contains (routers_passed way) router

abbrev pub IsWayByPotentials : Type 0
IsWayByPotentials =
    (d : Database) (q : Request) (y : Potentials) → y.leaving q.from < y.arriving q.to → AreWaysBy d q y
