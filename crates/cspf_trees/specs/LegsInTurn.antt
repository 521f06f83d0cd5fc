-- Private: requests for which each leg has only one target (a router where the leg may end), and
-- how the legs of such a request are answered one after the other.
use Rattle.std.specs.Prelude.{◌≡◌, ◌≢◌, ℕ, suc, ◌+◌, ◌<◌, List, [], ◌++◌, length, slice_get, slice_index}
use Rattle.std.specs.List.{flat_map}
use Rattle.std.specs.declared.cmp.Ordering.TheVariants.{Less}
use Rattle.cspf_addr.specs.PrefixParts.{PrefixParts}
use Rattle.cspf_model.specs.declared.link.Link.{Link}
use Rattle.cspf_model.specs.declared.request.Request.{Request}
use Rattle.cspf_model.specs.Database.{Database}
use Rattle.cspf_model.specs.Targets.{IsLoose, IsTarget, Owns}
use Rattle.cspf_model.specs.Walks.{IsWalk, end_of, walk_cmp}
use Rattle.cspf_model.specs.Legs.{AreLegs}
use Rattle.cspf_model.specs.Routes.{IsRoute}
use Rattle.cspf_model.specs.Best.{Answer, IsBestAnswer}

-- the router owns the prefix, and no other router owns it
pub record IsSoleOwner (d : Database) (prefix : PrefixParts) (router : ℕ) : Type 0 where
  pub owns : Owns d prefix router
  pub sole : (other : ℕ) → Owns d prefix other → other ≡ router

-- The leg to the hop at the index `at` is loose, and the router is its only target (a router where
-- the leg may end). If `at` is the number of hops, the leg is the one to the tail-end.
pub record IsSoleTarget (d : Database) (q : Request) (at router : ℕ) : Type 0 where
  pub loose : IsLoose (slice_get q.hops at)
  pub target : IsTarget d q (suc at) router
  pub sole : (other : ℕ) → IsTarget d q (suc at) other → other ≡ router

-- each leg of the request has only one target (a router where the leg may end), and `targets` are
-- these targets in the order of the legs
pub record AreSoleTargets (d : Database) (q : Request) (targets : List ℕ) : Type 0 where
  pub number : length targets ≡ suc (length q.hops)
  pub each : (at : ℕ) → at < length targets → IsSoleTarget d q at (slice_index targets at)

-- The request `leg` asks for one leg of the request `q`: from the router `start` to the router
-- `target`, without hops. It has the setup priority, the bandwidth and the affinities of `q`.
pub record AsksForLeg (q leg : Request) (start target : ℕ) : Type 0 where
  pub from : leg.from ≡ start
  pub to : leg.to ≡ target
  pub setup : leg.setup ≡ q.setup
  pub bandwidth : leg.bandwidth ≡ q.bandwidth
  pub exclude_any : leg.exclude_any ≡ q.exclude_any
  pub include_any : leg.include_any ≡ q.include_any
  pub include_all : leg.include_all ≡ q.include_all
  pub hops : leg.hops ≡ []

-- the answer is the best answer to a request for one leg of `q`, from the router `start` to the
-- router `target`
pub record IsLegAnswer (d : Database) (q : Request) (start target : ℕ) (answer : Answer) : Type 0 where
  pub leg : Request
  pub asks : AsksForLeg q leg start target
  pub best : IsBestAnswer d leg answer

-- The route begins with the links `front`, which take the place of its first `count` legs, and its
-- other legs follow. The links `front` end at the router `router`, and don't precede the walk in
-- the order of walks.
pub record GoesOnInLegs (d : Database) (q : Request) (count router : ℕ) (walk route : List Link) : Type 0 where
  pub front : List Link
  pub legs : List (List Link)
  pub whole : front ++ flat_map (λ links. links) legs ≡ route
  pub number : count + length legs ≡ suc (length q.hops)
  pub each : AreLegs d q (suc count) router legs
  pub arrives : end_of q.from front ≡ router
  pub order : walk_cmp front walk ≢ Less

-- The walk consists of the first `count` legs of the request, and ends at the router `router`. Each
-- route has a prefix that ends at this router and doesn't precede the walk in the order of walks,
-- as `GoesOnInLegs` says.
pub record IsLeastSoFar (d : Database) (q : Request) (count router : ℕ) (walk : List Link) : Type 0 where
  pub is_walk : IsWalk d q walk
  pub legs : List (List Link)
  pub number : length legs ≡ count
  pub whole : flat_map (λ links. links) legs ≡ walk
  pub each : AreLegs d q 1 q.from legs
  pub arrives : end_of q.from walk ≡ router
  pub target : IsTarget d q count router
  pub least : (route : List Link) → IsRoute d q route → GoesOnInLegs d q count router walk route
