-- Private: a link of a table, with the index of the router at its end and the index of its reverse.
use Rattle.std.specs.Prelude.{◌≡◌, ℕ, Some, slice_get}
use Rattle.cspf_model.specs.Database.{Database}
use Rattle.cspf_db.specs.Index.{links_from_index, IsReverseAt}
use Rattle.cspf_walk.specs.declared.edge.Edge.{Edge}
use Rattle.cspf_graph.specs.Lists.{IsIndexOf}

-- `edge` is a link from the router at the index `place`, with the index of the router at its end
-- and the index of its reverse.
pub record IsEdge (d : Database) (place : ℕ) (edge : Edge) : Type 0 where
  pub row : slice_get (links_from_index d place) edge.row ≡ Some edge.link.now
  pub end : IsIndexOf d edge.link.now.to edge.end
  pub reverse : IsReverseAt d edge.link.now edge.reverse
