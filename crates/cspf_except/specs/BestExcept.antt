-- The best answer to a request that excludes links.
use Rattle.std.specs.Prelude.{List}
use Rattle.cspf_model.specs.declared.link.Link.{Link}
use Rattle.cspf_model.specs.declared.request.Request.{Request}
use Rattle.cspf_model.specs.Database.{Database, IsRouterOf}
use Rattle.cspf_model.specs.Routes.{IsRoute}
use Rattle.cspf_model.specs.Best.{Answer, unknown_from, unknown_to, no_route, route, HasEnds, IsBestRoute}
use Rattle.cspf_exclusions.specs.declared.exclusion.Exclusion.{Exclusion}
use Rattle.cspf_exclusions.specs.Exclusions.{IsWithout}

-- The walk is the best route of the request in the database `d` without the excluded links.
abbrev pub IsBestRouteExcept : Database → Request → List Exclusion → List Link → Type 0
IsBestRouteExcept d q parts walk = (e : Database) × IsWithout d parts e × IsBestRoute e q walk

-- The request has no route in the database `d` without the excluded links.
abbrev pub HasNoRouteExcept : Database → Request → List Exclusion → Type 0
HasNoRouteExcept d q parts = (e : Database) × IsWithout d parts e × ((walk : List Link) → ¬ IsRoute e q walk)

-- The best answer is `unknown_from` if the head-end isn't in the database, whatever is excluded.
-- Otherwise it is `unknown_to` if the tail-end isn't in the database. Otherwise it is the best route
-- in the database without the excluded links, or `no_route` if no walk is a route there.
abbrev pub IsBestExcept : Database → Request → List Exclusion → Answer → Type 0
IsBestExcept d q parts unknown_from = ¬ IsRouterOf d q.from
IsBestExcept d q parts unknown_to = IsRouterOf d q.from × ¬ IsRouterOf d q.to
IsBestExcept d q parts no_route = HasEnds d q × HasNoRouteExcept d q parts
IsBestExcept d q parts (route walk) = HasEnds d q × IsBestRouteExcept d q parts walk
