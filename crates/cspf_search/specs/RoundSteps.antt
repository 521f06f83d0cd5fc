-- Private: what holds at the start of a round of the search by rounds, and while the round looks at
-- the links from one settled node (the record of a walk).
use Rattle.std.specs.Prelude.{◌≡◌, ℕ, ◌%◌, ◌<◌, ◌≤◌, Option, Some, None, List, length, take, slice_index_or}
use Rattle.cspf_model.specs.declared.link.Link.{Link}
use Rattle.cspf_model.specs.declared.limits.TheConstants.{MOST_ROUTERS}
use Rattle.cspf_model.specs.declared.request.Request.{Request}
use Rattle.cspf_model.specs.Database.{Database}
use Rattle.cspf_db.specs.Index.{links_of, links_from_index}
use Rattle.cspf_search.specs.declared.arena.Node.{Node}
use Rattle.cspf_search.specs.States.{State}
use Rattle.cspf_search.specs.Rounds.{CrossesFrom}
use Rattle.cspf_search.specs.declared.rounds.Look.{Look}
use Rattle.cspf_search.specs.declared.rounds.Round.{Round}
use Rattle.cspf_search.specs.Arena.{AreNodes, AreInLegs, state_of, walk_rank}
use Rattle.cspf_search.specs.Frontier.{IsNodeAt, no_rank, nowhere}
use Rattle.cspf_search.specs.ForwardStars.{AreForwardStars, AreStateMarks, IsForwardStar}
use Rattle.cspf_search.specs.Query.{IsQuery}

-- The fields of the round agree with each other. The round has the settled nodes (records of walks)
-- and their forward stars, and `marks` says for each state (a router in a leg) whether it is
-- settled.
pub record IsRound (round : Round) : Type 0 where
  pub query : IsQuery round.query
  pub arena : AreNodes round.nodes.now
  pub legs : AreInLegs round.query.request.now round.nodes.now
  pub stars : AreForwardStars round.query.table.now round.nodes.now round.stars.now
  pub marks : AreStateMarks round.query.table.now round.query.request.now round.nodes.now round.marks.now

-- The fields of `look` agree with each other. `look` has the settled nodes (records of walks), the
-- index of one of these nodes, and the forward star of this node, which has the links from the
-- node's router.
pub record IsLook (look : Look) : Type 0 where
  pub query : IsQuery look.query
  pub arena : AreNodes look.nodes.now
  pub marks : AreStateMarks look.query.table.now look.query.request.now look.nodes.now look.marks.now
  pub from : IsNodeAt look.query.table.now look.query.request.now look.nodes.now look.at look.star.state
  pub star : IsForwardStar look.query.table.now (state_of (slice_index_or look.nodes.now look.at nowhere)) look.star

-- The walk to the given state continues the node of `look` by the step to the next leg, or by one
-- of the first `row` links from the node's router. A state is a router in a leg, and a node is the
-- record of a walk.
abbrev pub LeadsToRow : Look → ℕ → List Link → State → Type 0
LeadsToRow look row =
    CrossesFrom look.query.table.now look.query.request.now look.nodes.now
    (take row (links_from_index look.query.table.now (look.star.state % MOST_ROUTERS))) look.at

-- The rank of a node (the record of a walk), or a number above all ranks if there is no node. A
-- walk's rank packs its cost and its number of links into one number.
abbrev pub low_of : Option Node → ℕ
low_of None = no_rank
low_of (Some n) = n.rank

-- `low` is a lower bound of the ranks of all walks that continue the node at `at` by one link or by
-- the step to the next leg. If there is such a walk, `low` is less than `no_rank`. A node is the
-- record of a walk, and a walk's rank packs its cost and its number of links into one number.
abbrev pub IsLow : Database → Request → List Node → ℕ → ℕ → Type 0
IsLow d q nodes at low =
    (w : List Link) (t : State) → CrossesFrom d q nodes (links_of d) at w t → (low < no_rank) × (low ≤ walk_rank w)

-- For each of the nodes, `lows` has a lower bound of the ranks of all walks that continue this node
-- by one link or by the step to the next leg. A node is the record of a walk, and a walk's rank
-- packs its cost and its number of links into one number.
pub record AreLows (d : Database) (q : Request) (nodes : List Node) (lows : List ℕ) : Type 0 where
  pub many : length lows ≡ length nodes
  pub each : (at : ℕ) → at < length nodes → IsLow d q nodes at (slice_index_or lows at 0)
