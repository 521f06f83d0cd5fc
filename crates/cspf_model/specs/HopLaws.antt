-- A law of requests without hops.
use Rattle.std.specs.Prelude.{◌≡◌, ◌↔◌, List, []}
use Rattle.cspf_model.specs.declared.link.Link.{Link}
use Rattle.cspf_model.specs.declared.request.Request.{Request}
use Rattle.cspf_model.specs.Database.{Database}
use Rattle.cspf_model.specs.Walks.{IsWalk, end_of}
use Rattle.cspf_model.specs.Routes.{IsRoute}

-- The links are a walk that ends at the tail-end of the request.
pub record IsWalkToEnd (d : Database) (q : Request) (walk : List Link) : Type 0 where
  pub is_walk : IsWalk d q walk
  pub arrives : end_of q.from walk ≡ q.to

-- Without hops, the routes are exactly the walks that end at the tail-end.
abbrev pub AreRoutesWithoutHops : Type 0
AreRoutesWithoutHops =
    (d : Database) (q : Request) (walk : List Link)
    → q.hops ≡ [] → IsRoute d q walk ↔ IsWalkToEnd d q walk
