-- Laws of pairs: reasons why there is no pair, and how the two kinds of pairs are related.
use Rattle.std.specs.Prelude.{◌≢◌, ℕ, List, ◌++◌, AllPairs, Contains}
use Rattle.std.specs.declared.cmp.Ordering.TheVariants.{Less, Greater}
use Rattle.cspf_model.specs.declared.link.Link.{Link}
use Rattle.cspf_model.specs.declared.request.Request.{Request}
use Rattle.cspf_model.specs.Database.{Database, key_of}
use Rattle.cspf_model.specs.Walks.{routers_passed}
use Rattle.cspf_pair.specs.declared.kind.Kind.{Kind}
use Rattle.cspf_pair.specs.declared.kind.Kind.TheVariants.{Circuits, Routers}
use Rattle.cspf_pair.specs.Pairs.{IsLeastPair, IsPair, IsWay, HasNoPair, size_cmp}

-- If each way has the link, there is no pair.
abbrev pub IsNoPairByLink : Type 0
IsNoPairByLink =
    (d : Database) (q : Request) (kind : Kind) (l : Link)
    → ((way : List Link) → IsWay d q way → Contains way l) → HasNoPair d q kind

-- If each way passes through the router, there is no pair that shares no router.
abbrev pub IsNoPairByRouter : Type 0
IsNoPairByRouter =
    (d : Database) (q : Request) (router : ℕ)
    → ((way : List Link) → IsWay d q way → Contains (routers_passed way) router) → HasNoPair d q Routers

-- Each pair that shares no router is a pair that shares no circuit.
abbrev pub ArePairsByCircuits : Type 0
ArePairsByCircuits =
    (d : Database) (q : Request) (one other : List Link) → IsPair d q Routers one other → IsPair d q Circuits one other

-- The two links are different links. They may be the reverse of each other.
abbrev pub AreTwoLinks : Link → Link → Type 0
AreTwoLinks l m = key_of l ≢ key_of m

-- The two ways have no common link, and no way has a link twice. They may use a circuit in both
-- directions.
pub record IsPairOfLinks (d : Database) (q : Request) (one other : List Link) : Type 0 where
  pub first_way : IsWay d q one
  pub second_way : IsWay d q other
  pub links : AllPairs AreTwoLinks (one ++ other)

-- For each two ways without a common link there is a pair that shares no circuit and isn't larger.
abbrev pub ArePairsOfLinksNoSmaller : Type 0
ArePairsOfLinksNoSmaller =
    (d : Database) (q : Request) (one other : List Link) → IsPairOfLinks d q one other
    → (a : List Link) × (b : List Link) × IsPair d q Circuits a b × (size_cmp (a ++ b) (one ++ other) ≢ Greater)

-- No two ways without a common link are smaller than the least pair that shares no circuit.
abbrev pub IsLeastPairOfLinksNoSmaller : Type 0
IsLeastPairOfLinksNoSmaller =
    (d : Database) (q : Request) (one other a b : List Link) → IsPairOfLinks d q one other
    → IsLeastPair d q Circuits a b → size_cmp (one ++ other) (a ++ b) ≢ Less
