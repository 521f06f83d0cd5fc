-- Private: the forward stars of the settled nodes in the search by rounds, and which states are
-- marked as settled. A forward star has the links from one router. A state is a router in a leg,
-- and a node is the record of a walk.
use Rattle.std.specs.Prelude.{◌≡◌, ℕ, ◌+◌, ◌*◌, ◌%◌, ◌<◌, Bool, is_some, List, All, length, map, slice_index, slice_index_or}
use Rattle.cspf_model.specs.declared.limits.TheConstants.{MOST_ROUTERS}
use Rattle.cspf_model.specs.declared.link.Link.{Link}
use Rattle.cspf_model.specs.declared.request.Request.{Request}
use Rattle.cspf_model.specs.Database.{Database}
use Rattle.cspf_db.specs.Index.{router_list, links_from_index, IsReverseAt}
use Rattle.cspf_search.specs.declared.arena.Node.{Node}
use Rattle.cspf_search.specs.declared.forward_star.ForwardStar.{ForwardStar}
use Rattle.cspf_search.specs.States.{State}
use Rattle.cspf_search.specs.Arena.{state_of, index_of}
use Rattle.cspf_search.specs.Frontier.{state_at, nowhere}
use Rattle.cspf_graph.specs.Roles.{IsStateIndex}

-- The forward star `star` has the index of the state `s` (a router in a leg) and the links from the
-- router of `s`. For each link it also has the index of the router at the link's end, and the index
-- of the link's reverse.
pub record IsForwardStar (d : Database) (s : State) (star : ForwardStar) : Type 0 where
  pub state : s ≡ state_at d star.state
  pub place : star.state % MOST_ROUTERS < length (router_list d)
  pub links : star.links.now ≡ links_from_index d (star.state % MOST_ROUTERS)
  pub within : All (λ end. end < length (router_list d)) star.ends.now
  pub each : map (λ end. slice_index (router_list d) end) star.ends.now
      ≡ map (λ l. l.to) (links_from_index d (star.state % MOST_ROUTERS))
  pub many : length star.reverses.now ≡ length (links_from_index d (star.state % MOST_ROUTERS))
  pub reverses : (nth : ℕ) (e : Link) → nth < length (links_from_index d (star.state % MOST_ROUTERS))
      → IsReverseAt d (slice_index_or (links_from_index d (star.state % MOST_ROUTERS)) nth e) (slice_index_or star.reverses.now nth 0)

-- The list `stars` has the forward star of each of the nodes (records of walks), in the same order.
pub record AreForwardStars (d : Database) (nodes : List Node) (stars : List ForwardStar) : Type 0 where
  pub many : length stars ≡ length nodes
  pub each : (i : ℕ) (e : ForwardStar) → i < length nodes
      → IsForwardStar d (state_of (slice_index_or nodes i nowhere)) (slice_index_or stars i e)

-- The list `marks` has an entry for each state (a router in a leg). The entry is `true` exactly if
-- one of the nodes (records of walks) has this state.
pub record AreStateMarks (d : Database) (q : Request) (nodes : List Node) (marks : List Bool) : Type 0 where
  pub many : length marks ≡ (length q.hops + 1) * MOST_ROUTERS
  pub each : (i : ℕ) (e : Bool) → IsStateIndex d q i
      → slice_index_or marks i e ≡ is_some (index_of nodes (state_at d i))
