-- Laws of the best answer to a request with exclusions.
use Rattle.std.specs.Prelude.{◌≡◌, ◌≤◌, List, [], Contains}
use Rattle.cspf_model.specs.declared.link.Link.{Link}
use Rattle.cspf_model.specs.declared.request.Request.{Request}
use Rattle.cspf_model.specs.Database.{Database}
use Rattle.cspf_model.specs.Walks.{cost_of}
use Rattle.cspf_model.specs.Best.{Answer, IsBestRoute}
use Rattle.cspf_exclusions.specs.declared.exclusion.Exclusion.{Exclusion}
use Rattle.cspf_exclusions.specs.Exclusions.{IsWithout}
use Rattle.cspf_except.specs.BestExcept.{IsBestExcept}

-- A request with exclusions has at most one best answer.
abbrev pub OneBestExcept : Type 0
OneBestExcept =
    (d : Database) (q : Request) (parts : List Exclusion) (a b : Answer)
    → IsBestExcept d q parts a → IsBestExcept d q parts b → a ≡ b

-- Let a request without hops exclude at least what another request with the same fields excludes.
-- Then the cost of its best route isn't lower.
abbrev pub MoreCostNoLess : Type 0
MoreCostNoLess =
    (d e f : Database) (q : Request) (fewer more : List Exclusion) (v w : List Link) → q.hops ≡ []
    → ((part : Exclusion) → Contains fewer part → Contains more part)
    → IsWithout d fewer e → IsWithout d more f → IsBestRoute e q v → IsBestRoute f q w
    → cost_of v ≤ cost_of w
