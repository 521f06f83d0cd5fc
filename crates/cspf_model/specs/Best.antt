-- The best answer to a request.
use Rattle.std.specs.Prelude.{◌≢◌, List}
use Rattle.std.specs.declared.cmp.Ordering.TheVariants.{Less}
use Rattle.cspf_model.specs.declared.link.Link.{Link}
use Rattle.cspf_model.specs.declared.request.Request.{Request}
use Rattle.cspf_model.specs.Database.{Database, IsRouterOf}
use Rattle.cspf_model.specs.Walks.{walk_cmp}
use Rattle.cspf_model.specs.Routes.{IsRoute}

-- The walk is a route, and no other route precedes it in the order of walks.
pub record IsBestRoute (d : Database) (q : Request) (walk : List Link) : Type 0 where
  pub is_route : IsRoute d q walk
  pub least : (other : List Link) → IsRoute d q other → walk_cmp other walk ≢ Less

-- An answer to a request: an unknown head-end, an unknown tail-end, no route, or a route.
pub data Answer : Type 0 where
  unknown_from : Answer
  unknown_to : Answer
  no_route : Answer
  route : List Link → Answer

-- The database has the head-end and the tail-end of the request.
pub record HasEnds (d : Database) (q : Request) : Type 0 where
  pub from : IsRouterOf d q.from
  pub to : IsRouterOf d q.to

-- The best answer is `unknown_from` if the head-end isn't in the database. Otherwise it is
-- `unknown_to` if the tail-end isn't in the database. Otherwise it is the best route, or `no_route`
-- if no walk is a route.
abbrev pub IsBestAnswer : Database → Request → Answer → Type 0
IsBestAnswer d q unknown_from = ¬ IsRouterOf d q.from
IsBestAnswer d q unknown_to = IsRouterOf d q.from × ¬ IsRouterOf d q.to
IsBestAnswer d q no_route = HasEnds d q × ((walk : List Link) → ¬ IsRoute d q walk)
IsBestAnswer d q (route walk) = HasEnds d q × IsBestRoute d q walk
