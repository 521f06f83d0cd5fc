-- Routes: the walks that follow the hops of a request.
use Rattle.std.specs.Prelude.{List}
use Rattle.cspf_model.specs.declared.link.Link.{Link}
use Rattle.cspf_model.specs.declared.request.Request.{Request}
use Rattle.cspf_model.specs.Database.{Database}
use Rattle.cspf_model.specs.Walks.{IsWalk}
use Rattle.cspf_model.specs.Legs.{IsCutInto}

-- The links are a walk that can be cut into legs: one leg to each hop of the request, and one to
-- the tail-end.
pub record IsRoute (d : Database) (q : Request) (walk : List Link) : Type 0 where
  pub is_walk : IsWalk d q walk
  pub cut : (legs : List (List Link)) × IsCutInto d q walk legs
