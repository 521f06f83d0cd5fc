-- Private: the query of a search, and the walks that continue a settled node (the record of a walk)
-- by one link or by the step to the next leg at the same router.
use Rattle.std.specs.Prelude.{◌≡◌, ℕ, ◌+◌, ◌%◌, ◌≤◌, List, length, nat_eq}
use Rattle.std.specs.List.{AllByRecursion, IsDistinct}
use Rattle.cspf_model.specs.declared.limits.TheConstants.{MOST_LEGS}
use Rattle.cspf_model.specs.declared.limits.TheConstants.{MOST_ROUTERS}
use Rattle.cspf_model.specs.declared.link.Link.{Link}
use Rattle.cspf_model.specs.Database.{AreLinksOf, IsRouterOf}
use Rattle.cspf_db.specs.Index.{links_of}
use Rattle.cspf_search.specs.declared.arena.Node.{Node}
use Rattle.cspf_search.specs.declared.query.Query.{Query}
use Rattle.cspf_search.specs.States.{State}
use Rattle.cspf_search.specs.Rounds.{CrossesBelow}
use Rattle.cspf_graph.specs.Lists.{AreListed}
use Rattle.cspf_graph.specs.Roles.{AreRoles, AreTargets}
use Rattle.cspf_search.specs.Frontier.{CrossesUpTo}

-- The fields of the query agree with each other. Its table lists the routers and links of the
-- database. Its `roles` say what a route may do at each router in each leg. Its `targets` are the
-- routers where the leg to each hop may end.
pub record IsQuery (query : Query) : Type 0 where
  pub listed : AreListed query.table.now
  pub links : AreLinksOf query.table.now (links_of query.table.now)
  pub few : (routers : List ℕ) → IsDistinct nat_eq routers → AllByRecursion (IsRouterOf query.table.now) routers
      → length routers ≤ MOST_ROUTERS
  pub count : query.legs ≡ length query.request.now.hops + 1
  pub most : query.legs ≤ MOST_LEGS
  pub roles : AreRoles query.table.now query.request.now query.roles.now
  pub targets : AreTargets query.table.now query.request.now query.targets.now

-- The walk continues the walk of a node at an index below `at`, by one link or by the step to the
-- next leg at the same router. The given state is the state that the walk reaches. A state is a
-- router in a leg, and a node is the record of a walk.
abbrev pub CrossesBefore : Query → List Node → ℕ → List Link → State → Type 0
CrossesBefore query nodes at = CrossesBelow query.table.now query.request.now nodes (links_of query.table.now) at

-- The walk continues a node at an index below `at`, by one link or by the step to the next leg. Or
-- it continues the node at `at`, by the step to the next leg or by one of the first `row` links
-- from the router of `state`, which is the index of that node's state. The given state is the state
-- that the walk reaches. A state is a router in a leg, and a node is the record of a walk.
abbrev pub CrossesToRow : Query → List Node → ℕ → ℕ → ℕ → List Link → State → Type 0
CrossesToRow query nodes at state row = CrossesUpTo query.table.now query.request.now nodes at (state % MOST_ROUTERS) row
