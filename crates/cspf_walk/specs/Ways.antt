-- Private: the links of which ways to the tail-end consist, and the rank of a way.
use Rattle.std.specs.Prelude.{◌≡◌, ℕ, ◌+◌, ◌*◌, ◌≤◌, List, length, nat_eq}
use Rattle.std.specs.List.{AllByRecursion, IsDistinct}
use Rattle.cspf_model.specs.declared.limits.TheConstants.{MOST_ROUTERS}
use Rattle.cspf_model.specs.declared.link.Link.{Link}
use Rattle.cspf_model.specs.declared.request.Request.{Request}
use Rattle.cspf_model.specs.Database.{Database, AreLinksOf, IsRouterOf}
use Rattle.cspf_model.specs.Admissible.{IsAdmissible}
use Rattle.cspf_model.specs.Walks.{cost_of}
use Rattle.cspf_db.specs.Index.{links_of}
use Rattle.cspf_graph.specs.Lists.{AreListed, IsIndexOf}
use Rattle.cspf_graph.specs.Roles.{MayBeLeft, MayLeadOver}
use Rattle.cspf_walk.specs.declared.limits.TheConstants.{COST_WEIGHT}
use Rattle.cspf_walk.specs.declared.located_request.LocatedRequest.{LocatedRequest}

-- How much a link adds to the rank of a way.
abbrev pub link_step : Link → ℕ
link_step l = l.metric * COST_WEIGHT + 1

-- The rank of a way: its cost times `COST_WEIGHT`, plus its number of links.
abbrev pub rank_of : List Link → ℕ
rank_of links = cost_of links * COST_WEIGHT + length links

-- A route of a request without hops may use the link: the link is admissible, some walk may leave
-- the router where the link begins, and a way to the tail-end may lead over the router where the
-- link ends.
pub record IsWayLink (d : Database) (q : Request) (l : Link) : Type 0 where
  pub admissible : IsAdmissible d q l
  pub left : MayBeLeft d q l.from
  pub over : MayLeadOver d q l.to

-- A link that a route may use leads from the router at the index `u` to the router at the index
-- `w`, and adds `step` to the rank of a way.
pub record Leads (d : Database) (q : Request) (u w step : ℕ) : Type 0 where
  pub link : Link
  pub is : IsWayLink d q link
  pub from : IsIndexOf d link.from u
  pub to : IsIndexOf d link.to w
  pub same : link_step link ≡ step

-- The function gives for each index of a router a lower bound of the rank of a way from this router
-- to the tail-end: over each link that a route may use, it falls by at most the link's step, and at
-- the tail-end it is 0.
pub record IsRankBound (d : Database) (q : Request) (bound : ℕ → ℕ) : Type 0 where
  pub links : (u w step : ℕ) → Leads d q u w step → bound u ≤ bound w + step
  pub end : (place : ℕ) → IsIndexOf d q.to place → bound place ≡ 0

-- The fields of the query agree with each other, and the request has no hops. The table lists the
-- routers and links of the database.
pub record IsLocatedRequest (query : LocatedRequest) : Type 0 where
  pub listed : AreListed query.table.now
  pub links : AreLinksOf query.table.now (links_of query.table.now)
  pub few : (routers : List ℕ) → IsDistinct nat_eq routers → AllByRecursion (IsRouterOf query.table.now) routers
      → length routers ≤ MOST_ROUTERS
  pub from : IsIndexOf query.table.now query.request.now.from query.from
  pub to : IsIndexOf query.table.now query.request.now.to query.to
  pub hops : length query.request.now.hops ≡ 0
