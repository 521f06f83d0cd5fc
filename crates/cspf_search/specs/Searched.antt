-- Private: what holds of the settled nodes (records of walks) when either of the two searches ends.
use Rattle.std.specs.Prelude.{◌≡◌, ◌+◌, ◌*◌, ◌≤◌, None, List, length}
use Rattle.cspf_model.specs.declared.limits.TheConstants.{MOST_ROUTERS}
use Rattle.cspf_model.specs.declared.request.Request.{Request}
use Rattle.cspf_model.specs.declared.link.Link.{Link}
use Rattle.cspf_model.specs.Database.{Database}
use Rattle.cspf_model.specs.Routes.{IsRoute}
use Rattle.cspf_search.specs.declared.arena.Node.{Node}
use Rattle.cspf_search.specs.States.{end_state}
use Rattle.cspf_search.specs.Settled.{AreSettled}
use Rattle.cspf_search.specs.Arena.{AreNodes, labels_of}

-- The nodes (records of walks) that a search has settled when it ends. If the tail-end isn't
-- settled in the last leg, there is no route.
pub record IsSearched (d : Database) (q : Request) (nodes : List Node) : Type 0 where
  pub arena : AreNodes nodes
  pub few : length nodes ≤ (length q.hops + 1) * MOST_ROUTERS
  pub settled : AreSettled d q (labels_of nodes)
  pub whole : labels_of nodes (end_state q) ≡ None → (w : List Link) → IsRoute d q w → ⊥
