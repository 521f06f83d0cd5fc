-- Private: what the answer to one more leg implies about a walk.
use Rattle.std.specs.Prelude.{◌≡◌, ℕ, List, ◌++◌}
use Rattle.cspf_model.specs.declared.link.Link.{Link}
use Rattle.cspf_model.specs.declared.request.Request.{Request}
use Rattle.cspf_model.specs.Database.{Database}
use Rattle.cspf_model.specs.Routes.{IsRoute}
use Rattle.cspf_trees.specs.declared.leg_walk.LegWalk.{LegWalk}
use Rattle.cspf_trees.specs.declared.legs.LegStep.{LegStep}
use Rattle.cspf_trees.specs.declared.legs.LegStep.TheVariants.{On, NoRoute, Unknown}
use Rattle.cspf_trees.specs.LegsInTurn.{IsLeastSoFar}

-- the new walk is the old walk with the links `more` appended, and ends at the router `router`
pub record IsLonger (more : List Link) (router : ℕ) (old new : LegWalk) : Type 0 where
  pub links : new.links.items ≡ old.links.items ++ more
  pub at : new.at ≡ router

-- What follows from the answer to one more leg, in each of the three cases of `LegStep`. `On`: the
-- walk is the least walk through the first `count` legs. `NoRoute`: the request has no route.
-- `Unknown`: nothing follows.
abbrev pub IsLegStep : Database → Request → ℕ → LegWalk → LegStep → Type 0
IsLegStep d q count walk On = IsLeastSoFar d q count walk.at walk.links.items
IsLegStep d q count walk NoRoute = (route : List Link) → ¬ IsRoute d q route
IsLegStep d q count walk Unknown = Unit {0}
