-- Private: strict legs that no route can pass.
use Rattle.std.specs.Prelude.{◌≡◌, ℕ, ◌+◌, ◌<◌, length, slice_get}
use Rattle.cspf_model.specs.declared.link.Link.{Link}
use Rattle.cspf_model.specs.declared.request.Request.{Request}
use Rattle.cspf_model.specs.Database.{Database}
use Rattle.cspf_db.specs.Index.{router_list}
use Rattle.cspf_model.specs.Targets.{IsLoose, IsTarget}
use Rattle.cspf_search.specs.States.{LeadsOn}
use Rattle.cspf_graph.specs.Roles.{MayTurn}
use Rattle.cspf_graph.specs.Lists.{router_at}

-- A route that enters the leg to the hop at the index `leg` at this router can't go on to the next
-- leg: neither at this router nor after one more link.
pub record IsApart (d : Database) (q : Request) (leg router : ℕ) : Type 0 where
  pub turns : MayTurn d q (leg + 1) router → ⊥
  pub links : (l : Link) → LeadsOn d q l → l.from ≡ router → MayTurn d q (leg + 1) l.to → ⊥

-- No route can pass the leg to the hop at the index `leg`. The hop is strict, and `IsApart` holds
-- for each router at which the leg may begin.
pub record IsBroken (d : Database) (q : Request) (leg : ℕ) : Type 0 where
  pub hop : leg < length q.hops
  pub strict : IsLoose (slice_get q.hops leg) → ⊥
  pub apart : (p : ℕ) → p < length (router_list d) → IsTarget d q leg (router_at d p) → IsApart d q leg (router_at d p)
