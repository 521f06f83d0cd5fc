-- The best answer to a request with exclusions, from the best answer in the database without the
-- excluded links.
use Rattle.std.proofs.Common.{List}
use Rattle.cspf_model.specs.declared.link.Link.{Link}
use Rattle.cspf_model.specs.declared.request.Request.{Request}
use Rattle.cspf_model.specs.Database.{Database}
use Rattle.cspf_model.specs.Best.{Answer, unknown_from, unknown_to, no_route, route, HasEnds, IsBestAnswer}
use Rattle.cspf_exclusions.specs.declared.exclusion.Exclusion.{Exclusion}
use Rattle.cspf_exclusions.specs.Exclusions.{IsWithout}
use Rattle.cspf_except.specs.BestExcept.{IsBestExcept}
use Rattle.cspf_except.specs.UnknownEnds.{IsBestUnlessUnknown}
use Rattle.cspf_except.proofs.EndsOfRoutes.{no_route_from, no_route_to}

-- If no end is known to be missing, an answer without the excluded links is the answer.
pub best_left : (d e : Database) (q : Request) (parts : List Exclusion) (a : Answer) → HasEnds d q → IsWithout d parts e → IsBestUnlessUnknown e q a
    → IsBestExcept d q parts a
best_left d e q parts unknown_from ends without is = absurd is
best_left d e q parts unknown_to ends without is = absurd is
best_left d e q parts no_route ends without is = (ends, (e, without, is))
best_left d e q parts (route walk) ends without is = (ends, (e, without, is))

-- The best route or no route, from the best answer.
pub route_of : (d : Database) (q : Request) (walk : List Link) → IsBestAnswer d q (route walk) → IsBestUnlessUnknown d q (route walk)
route_of d q walk is = is.1

pub none_of : (d : Database) (q : Request) → IsBestAnswer d q no_route → IsBestUnlessUnknown d q no_route
none_of d q is = is.1

pub none_from : (d : Database) (q : Request) → IsBestAnswer d q unknown_from → IsBestUnlessUnknown d q no_route
none_from d q is = no_route_from d q is

pub none_to : (d : Database) (q : Request) → IsBestAnswer d q unknown_to → IsBestUnlessUnknown d q no_route
none_to d q is = no_route_to d q is.1
