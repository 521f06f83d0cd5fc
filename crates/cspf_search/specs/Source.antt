-- Private: the source, which is the settled node (the record of a walk) whose walk the search with
-- a heap continues, and the links from the source's router.
use Rattle.std.specs.Prelude.{◌≡◌, ℕ, ◌≤◌, List, slice_index_or}
use Rattle.cspf_search.specs.declared.frontier.Source.{Source}
use Rattle.cspf_search.specs.declared.labels.Label.{Label}
use Rattle.cspf_search.specs.Arena.{AreNodes}
use Rattle.cspf_search.specs.Frontier.{AreLabels, IsNodeAt, HeapKey, nowhere}
use Rattle.cspf_graph.specs.Roles.{IsStateIndex}
use Rattle.cspf_search.specs.Query.{IsQuery, CrossesBefore, CrossesToRow}

-- The fields of the source agree with each other. The source is the settled node whose walk the
-- search continues, with the node's state and rank. The state isn't in a closed leg. A state is a
-- router in a leg, and a node is the record of a walk. A walk's rank packs its cost and its number
-- of links into one number.
pub record IsSource (source : Source) : Type 0 where
  pub query : IsQuery source.query
  pub goal : IsStateIndex source.query.table.now source.query.request.now source.goal.at
  pub behind : source.goal.floor ≤ source.state
  pub arena : AreNodes source.nodes.now
  pub node : IsNodeAt source.query.table.now source.query.request.now source.nodes.now source.at source.state
  pub rank : source.rank ≡ (slice_index_or source.nodes.now source.at nowhere).rank

-- The labels and the keys meet `AreLabels` for all steps from the nodes that precede the source.
-- The steps from the source itself don't count yet. A node is the record of a walk, and a label
-- holds the best walk found so far to a state (a router in a leg).
abbrev pub AreBefore : Source → List Label → List HeapKey → Type 0
AreBefore source labels keys =
    AreLabels source.query.table.now source.query.request.now source.nodes.now (CrossesBefore source.query source.nodes.now source.at)
    source.goal labels keys

-- The labels and the keys meet `AreLabels` for all steps from the nodes that precede the source.
-- They also meet it for the step from the source to the next leg, and for the first `row` links
-- from the source's router. A node is the record of a walk, and a label holds the best walk found
-- so far to a state (a router in a leg).
abbrev pub AreUpToRow : Source → ℕ → List Label → List HeapKey → Type 0
AreUpToRow source row labels keys =
    AreLabels source.query.table.now source.query.request.now source.nodes.now
    (CrossesToRow source.query source.nodes.now source.at source.state row) source.goal labels keys
