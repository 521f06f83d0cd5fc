-- The best answer to a request for a pair.
use Rattle.std.specs.Prelude.{◌≢◌, ℕ, List, Contains}
use Rattle.std.specs.declared.cmp.Ordering.TheVariants.{Less}
use Rattle.cspf_model.specs.declared.link.Link.{Link}
use Rattle.cspf_model.specs.declared.request.Request.{Request}
use Rattle.cspf_model.specs.Database.{Database, IsRouterOf}
use Rattle.cspf_model.specs.Walks.{routers_passed, walk_cmp}
use Rattle.cspf_model.specs.Best.{HasEnds}
use Rattle.cspf_pair.specs.declared.kind.Kind.{Kind}
use Rattle.cspf_pair.specs.declared.kind.Kind.TheVariants.{Circuits, Routers}
use Rattle.cspf_pair.specs.declared.outcome.PairOutcome.{PairOutcome}
use Rattle.cspf_pair.specs.declared.outcome.PairOutcome.TheVariants as outcome
use Rattle.cspf_pair.specs.Pairs.{IsWay, IsLeastPair}

-- An answer to a request for a pair: an unknown head-end, an unknown tail-end, no way, a link that
-- each way has, a router that each way passes through, or a pair.
pub data PairAnswer : Type 0 where
  unknown_from : PairAnswer
  unknown_to : PairAnswer
  no_way : PairAnswer
  each_by : Link → PairAnswer
  each_through : ℕ → PairAnswer
  pair : List Link → List Link → PairAnswer

-- The answer that corresponds to an outcome of `best_pair`.
abbrev pub pair_answer_of : PairOutcome → PairAnswer
pair_answer_of outcome.UnknownFrom = unknown_from
pair_answer_of outcome.UnknownTo = unknown_to
pair_answer_of outcome.NoRoute = no_way
pair_answer_of (outcome.EachBy l) = each_by l
pair_answer_of (outcome.EachThrough router) = each_through router
pair_answer_of (outcome.Pair one other) = pair one other

-- `P` holds of each way, and there is a way.
pub record HaveAllWays (d : Database) (q : Request) (P : List Link → Type 0) : Type 0 where
  pub some : (way : List Link) × IsWay d q way
  pub each : (way : List Link) → IsWay d q way → P way

-- The two ways are a pair with the least size, and the second way doesn't come before the first in
-- the order of walks.
pub record IsBestPair (d : Database) (q : Request) (kind : Kind) (one other : List Link) : Type 0 where
  pub least : IsLeastPair d q kind one other
  pub in_order : walk_cmp other one ≢ Less

-- This kind of pair shares no router.
abbrev pub ForbidsRouters : Kind → Type 0
ForbidsRouters Circuits = ⊥
ForbidsRouters Routers = Unit {0}

-- The best answer is `unknown_from` if the head-end isn't in the database. Otherwise it is
-- `unknown_to` if the tail-end isn't in the database. Otherwise it is `no_way` if there is no way, a
-- pair with the least size, or a reason why there is no pair: a link that each way has, or, if the
-- pair must not share a router, a router that each way passes through.
abbrev pub IsBestPairAnswer : Database → Request → Kind → PairAnswer → Type 0
IsBestPairAnswer d q kind unknown_from = ¬ IsRouterOf d q.from
IsBestPairAnswer d q kind unknown_to = IsRouterOf d q.from × ¬ IsRouterOf d q.to
IsBestPairAnswer d q kind no_way = HasEnds d q × ((way : List Link) → ¬ IsWay d q way)
IsBestPairAnswer d q kind (each_by l) = HasEnds d q × HaveAllWays d q (λ way. Contains way l)
IsBestPairAnswer d q kind (each_through router) =
    HasEnds d q × ForbidsRouters kind × HaveAllWays d q (λ way. Contains (routers_passed way) router)
IsBestPairAnswer d q kind (pair one other) = HasEnds d q × IsBestPair d q kind one other
