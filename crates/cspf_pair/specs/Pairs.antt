-- Definitions of ways, of pairs of ways, and of the size of a pair.
use Rattle.std.specs.Prelude.{◌≡◌, ◌≢◌, ℕ, List, ◌∷◌, ◌++◌, AllPairs, length}
use Rattle.std.specs.Ordering.{nat_cmp, ordering_then}
use Rattle.std.specs.declared.cmp.Ordering.{Ordering}
use Rattle.std.specs.declared.cmp.Ordering.TheVariants.{Less}
use Rattle.cspf_model.specs.declared.link.Link.{Link}
use Rattle.cspf_model.specs.declared.request.Request.{Request}
use Rattle.cspf_model.specs.Database.{Database, IsReverse, key_of}
use Rattle.cspf_model.specs.Walks.{IsWalk, end_of, routers_passed, cost_of}
use Rattle.cspf_pair.specs.declared.kind.Kind.{Kind}
use Rattle.cspf_pair.specs.declared.kind.Kind.TheVariants.{Circuits, Routers}

-- A way of the request: a walk that ends at the tail-end. The request's hops don't matter.
pub record IsWay (d : Database) (q : Request) (way : List Link) : Type 0 where
  pub walk : IsWalk d q way
  pub end : end_of q.from way ≡ q.to

-- The two links belong to different circuits: they are different links, and the second link isn't
-- the reverse of the first.
pub record AreOfTwoCircuits (l m : Link) : Type 0 where
  pub keys : key_of l ≢ key_of m
  pub reverse : ¬ IsReverse l m

-- The numbers are different.
abbrev pub AreDifferent : ℕ → ℕ → Type 0
AreDifferent n m = n ≢ m

-- The head-end, the tail-end, and the routers that the two ways pass through.
abbrev pub routers_used : Request → List Link → List Link → List ℕ
routers_used q one other = q.from ∷ q.to ∷ (routers_passed one ++ routers_passed other)

-- The two ways share nothing that ways of this kind must not share besides circuits. In the kind
-- `Routers` no router is used twice: the ways pass through no end, and each of the other routers is
-- passed at most once.
abbrev pub ShareNoRouter : Kind → Request → List Link → List Link → Type 0
ShareNoRouter Circuits q one other = Unit {0}
ShareNoRouter Routers q one other = AllPairs AreDifferent (routers_used q one other)

-- The two ways are a pair of this kind: together they use each circuit at most once, in one
-- direction, and they share no router if the kind says so.
pub record IsPair (d : Database) (q : Request) (kind : Kind) (one other : List Link) : Type 0 where
  pub first_way : IsWay d q one
  pub second_way : IsWay d q other
  pub circuits : AllPairs AreOfTwoCircuits (one ++ other)
  pub routers : ShareNoRouter kind q one other

-- Lists of links are compared by their cost, and then by their number of links.
abbrev pub size_cmp : List Link → List Link → Ordering
size_cmp a b = ordering_then (nat_cmp (cost_of a) (cost_of b)) (nat_cmp (length a) (length b))

-- The two ways are a pair, and no pair has a smaller size. The size of a pair is that of the links
-- of both ways together.
pub record IsLeastPair (d : Database) (q : Request) (kind : Kind) (one other : List Link) : Type 0 where
  pub is_pair : IsPair d q kind one other
  pub least : (a b : List Link) → IsPair d q kind a b → size_cmp (a ++ b) (one ++ other) ≢ Less

-- No two ways are a pair of this kind.
abbrev pub HasNoPair : Database → Request → Kind → Type 0
HasNoPair d q kind = (one other : List Link) → ¬ IsPair d q kind one other
