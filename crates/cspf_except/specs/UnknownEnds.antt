-- Private: the best route of a request whose ends may be unknown.
use Rattle.std.specs.Prelude.{List}
use Rattle.cspf_model.specs.declared.link.Link.{Link}
use Rattle.cspf_model.specs.declared.request.Request.{Request}
use Rattle.cspf_model.specs.Database.{Database}
use Rattle.cspf_model.specs.Routes.{IsRoute}
use Rattle.cspf_model.specs.Best.{Answer, unknown_from, unknown_to, no_route, route, IsBestRoute}

-- The answer is the best route, or `no_route` if no walk is a route; the ends may be unknown
abbrev pub IsBestUnlessUnknown : Database → Request → Answer → Type 0
IsBestUnlessUnknown d q unknown_from = ⊥
IsBestUnlessUnknown d q unknown_to = ⊥
IsBestUnlessUnknown d q no_route = (walk : List Link) → ¬ IsRoute d q walk
IsBestUnlessUnknown d q (route walk) = IsBestRoute d q walk
