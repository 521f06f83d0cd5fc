-- The walks that continue a settled node to a state that isn't settled, and the node that a round
-- settles. A state is a router in a leg, and a node is the record of a walk.
use Rattle.std.proofs.Common.{◌≡◌, inl, inr, ℕ, suc, ◌+◌, ◌*◌, ◌<◌, ◌≤◌, Some, None, option_map, List, [], ◌∷◌, ◌++◌, length, slice_index_or, refl, sym, ap, subst, ◌∙◌, arith, rules}
use Rattle.std.proofs.lemmas.List.{length_push}
use Rattle.std.proofs.lemmas.List.Elements.{All-contains}
use Rattle.std.proofs.lemmas.Option.{get_or_from_slice_get, slice_get-get_or}
use Rattle.cspf_model.specs.declared.link.Link.{Link}
use Rattle.cspf_model.specs.declared.request.Request.{Request}
use Rattle.cspf_model.specs.Database.{Database, AreLinksOf, IsLinkOf, IsRouterOf}
use Rattle.cspf_search.specs.declared.arena.Node.{Node}
use Rattle.cspf_search.specs.States.{State, IsStep, by_link, by_turn, Reaches, starts, steps, start_of}
use Rattle.cspf_graph.specs.Roles.{MayEnter, MayTurn}
use Rattle.cspf_search.specs.Settled.{IsNoLater, AreSettled, Crosses, IsFirstCrossing, IsStuck}
use Rattle.cspf_search.specs.Arena.{walk_at, walks, walk_of, state_of, labels_of, AreNodes, AreInLegs, IsNext, root_of}
use Rattle.cspf_search.specs.Rounds.{CrossesBy, Turns, CrossesBelow, IsFirstOf, IsFirst}
use Rattle.cspf_search.proofs.Orders.{walk_from_state, rank_from_state}
use Rattle.cspf_search.proofs.Cuts.{reached_leg}
use Rattle.cspf_search.proofs.Settles.{settled_push}
use Rattle.cspf_search.specs.Frontier.{nowhere}
use Rattle.cspf_search.proofs.Labelled.{label_from, label_at, open_index, apart_push, nodes_push, nodes_root, labels_push}
use Rattle.cspf_search.proofs.Few.{HasFewRouters, AreApart, nodes_few}

-- The router of each state (a router in a leg) that a walk reaches is a router of the database.
pub reached_router : (d : Database) (q : Request) → IsRouterOf d q.from → (w : List Link) (s : State) → Reaches d q w s → IsRouterOf d s.router
reached_router d q from w s starts = from
reached_router d q from w s (steps r (by_link l a enters leaves)) = (l, a.link, inr refl)
reached_router d q from w s (steps r (by_turn within target)) = reached_router d q from _ _ r

-- No walk precedes the walk without links.
first_empty : (w : List Link) → IsNoLater [] w
first_empty w = search rules

module _ (d : Database) (q : Request) (links : List Link) (listed : AreLinksOf d links) (nodes : List Node) (apart : AreApart nodes) where
  -- A walk that continues a node by a link to a state without a node meets `Crosses`: it continues
  -- a settled walk by one step to a state that isn't settled. A state is a router in a leg, and a
  -- node is the record of a walk.
  by_link_crosses : (at : ℕ) → at < length nodes → (l : Link) → IsLinkOf d l → (w : List Link) (t : State) → CrossesBy d q nodes at l w t → Crosses d q (labels_of nodes) w t
  by_link_crosses at within l of w t by =
      let is = get_or_from_slice_get nodes at by.node nowhere by.there in
      let there : State = record { leg = by.node.leg; router = l.from } in
      let same : state_of (slice_index_or nodes at nowhere) ≡ there = ap state_of is ∙ (λ i. record { leg = by.node.leg; router = sym by.runs i }) in
      let step : IsStep d q (walk_at (walks nodes) at) there (walk_at (walks nodes) at ++ (l ∷ [])) (record { leg = by.node.leg; router = l.to }) =
      by_link l (record { link = of; usable = by.usable }) by.enters by.leaves in
      record {
        state = there;
        front = walk_at (walks nodes) at;
        settled = ap (labels_of nodes) (sym same) ∙ label_at nodes apart at nowhere within;
        step = rw (by.walk, by.state) step;
        still_open = ap (option_map (λ i. walk_at (walks nodes) i)) by.still_open;
      }

  -- A walk that continues a node by the step to the next leg, to a state without a node, meets
  -- `Crosses`: it continues a settled walk by one step to a state that isn't settled. A state is a
  -- router in a leg, and a node is the record of a walk.
  by_turn_crosses : (at : ℕ) → at < length nodes → (w : List Link) (t : State) → Turns d q nodes at w t → Crosses d q (labels_of nodes) w t
  by_turn_crosses at within w t turn =
      let is = get_or_from_slice_get nodes at turn.node nowhere turn.there in
      let next : turn.node.leg + 1 ≡ suc turn.node.leg = omega arith in
      let state : t ≡ record { leg = suc turn.node.leg; router = turn.node.router } = turn.state ∙ (λ i. record { leg = next i; router = turn.node.router }) in
      let step : IsStep d q (walk_at (walks nodes) at) (state_of turn.node) (walk_at (walks nodes) at) (record { leg = suc turn.node.leg; router = turn.node.router }) =
      by_turn turn.within turn.target in
      record {
        state = state_of turn.node;
        front = walk_at (walks nodes) at;
        settled = ap (labels_of nodes) (ap state_of (sym is)) ∙ label_at nodes apart at nowhere within;
        step = rw (turn.walk, state) step;
        still_open = ap (option_map (λ i. walk_at (walks nodes) i)) turn.still_open;
      }

  pub crosses_from : (w : List Link) (t : State) → CrossesBelow d q nodes links (length nodes) w t → Crosses d q (labels_of nodes) w t
  crosses_from w t x =
      elim x.2 [
        | inl turn ↦ by_turn_crosses x.0 x.1 w t turn
        | inr by ↦ by_link_crosses x.0 x.1 by.0 (All-contains (IsLinkOf d) links by.0 listed.each by.1) w t by.2
      ]

  step_from : (f w : List Link) (s t : State) → IsStep d q f s w t → labels_of nodes s ≡ Some f → labels_of nodes t ≡ None
      → CrossesBelow d q nodes links (length nodes) w t
  step_from f w s t (by_link {leg = k} l a enters leaves) here left =
      let at = label_from nodes (record { leg = k; router = l.from }) f nowhere here in
      let leg = ap (λ (s : State). s.leg) (sym at.2) in (
        at.0,
        at.1,
        inr (
          l,
          listed.whole l a.link,
          record {
            node = slice_index_or nodes at.0 nowhere;
            there = slice_get-get_or nodes at.0 nowhere at.1;
            runs = ap (λ (s : State). s.router) (sym at.2);
            usable = a.usable;
            leaves = rw at.3 leaves;
            enters = subst (λ (s : State). MayEnter d q s.leg l.to) (sym at.2) enters;
            walk = ap (λ v. v ++ (l ∷ [])) (sym at.3);
            state = λ i. record { leg = leg i; router = l.to };
            still_open = open_index nodes (record { leg = k; router = l.to }) left;
          },
        ),
      )
  step_from f w s t (by_turn {leg = k} {router = r} within target) here left =
      let at = label_from nodes (record { leg = k; router = r }) f nowhere here in
      let leg = ap (λ (s : State). s.leg) (sym at.2) in
      let router = ap (λ (s : State). s.router) (sym at.2) in
      let next : suc k ≡ (slice_index_or nodes at.0 nowhere).leg + 1 = omega (arith, leg) in (
        at.0,
        at.1,
        inl (record {
          node = slice_index_or nodes at.0 nowhere;
          there = slice_get-get_or nodes at.0 nowhere at.1;
          within = subst (λ (s : State). s.leg ≤ length q.hops) (sym at.2) within;
          target = subst (λ (s : State). MayTurn d q s.leg s.router) (sym at.2) target;
          walk = sym at.3;
          state = λ i. record { leg = next i; router = router i };
          still_open = open_index nodes (record { leg = suc k; router = r }) left;
        }),
      )

  -- A walk that meets `Crosses` continues a node by a link or by the step to the next leg.
  -- `Crosses` says that the walk continues a settled walk by one step to a state that isn't
  -- settled. A state is a router in a leg, and a node is the record of a walk.
  pub crosses_to : (w : List Link) (t : State) → Crosses d q (labels_of nodes) w t → CrossesBelow d q nodes links (length nodes) w t
  crosses_to w t x = step_from x.front w x.state t x.step x.settled x.still_open

  -- If no link and no step to the next leg leads from a node to a state without a node, the search
  -- can't go on: `IsStuck` holds. A state is a router in a leg, and a node is the record of a walk.
  pub nothing_crosses : IsFirst nodes (CrossesBelow d q nodes links (length nodes)) None → IsStuck d q (labels_of nodes)
  nothing_crosses none = record {
    closed = 0;
    is_closed = λ low. absurd (omega (arith, low));
    low = omega arith;
    none = λ w t x behind. none w t (crosses_to w t x);
  }

  first_crossing : AreSettled d q (labels_of nodes) → (n : Node) → IsFirstOf nodes (CrossesBelow d q nodes links (length nodes)) n
      → IsFirstCrossing d q (labels_of nodes) (walk_of nodes n) (state_of n)
  first_crossing settled n is = record {
    crosses = crosses_from (walk_of nodes n) (state_of n) is.passes;
    first_here = λ x c. walk_from_state n.leg (walk_of nodes n) x (is.first x (state_of n) (crosses_to x (state_of n) c));
    closed = 0;
    is_closed = λ low. absurd (omega (arith, low));
    behind =
        let c = crosses_from (walk_of nodes n) (state_of n) is.passes in
        let leg = reached_leg d q (walk_of nodes n) (state_of n) (steps (settled.reached c.state c.front c.settled) c.step) in
        omega (arith, leg.0);
    potential = λ _. 0;
    consistent = record { links = λ leg l low high a enters. (omega arith, λ way. way); turns = λ leg router low high target. omega arith };
    first = λ x u c behind. rank_from_state (state_of n) u (walk_of nodes n) x (is.first x u (crosses_to x u c));
  }

module _ (d : Database) (q : Request) (nodes : List Node) (apart : AreApart nodes) (settled : AreSettled d q (labels_of nodes)) where
  -- The walk of a node reaches the node's state. A state is a router in a leg, and a node is the
  -- record of a walk.
  node_reached : (i : ℕ) (e : Node) → i < length nodes → Reaches d q (walk_at (walks nodes) i) (state_of (slice_index_or nodes i e))
  node_reached i e h = settled.reached (state_of (slice_index_or nodes i e)) _ (label_at nodes apart i e h)

  pub nodes_in_legs : AreInLegs q nodes
  nodes_in_legs i e h = let leg = reached_leg d q _ _ (node_reached i e h) in record { low = leg.0; high = leg.1 }

  pub legs_few : IsRouterOf d q.from → HasFewRouters d → length nodes ≤ (length q.hops + 1) * 1024
  legs_few from few =
      nodes_few d few (length q.hops + 1) nodes apart (λ i e h.
      let leg = nodes_in_legs i e h in
      record { router = reached_router d q from _ _ (node_reached i e h); low = leg.low; high = leg.high })

-- If the walk of a node (the record of a walk) is the next walk to settle, by `IsFirstCrossing`,
-- the node may be appended: the walks of all nodes are then settled, and there are at most 1,024
-- nodes for each leg.
pub settled_by : (d : Database) (q : Request) → IsRouterOf d q.from → HasFewRouters d → length q.hops + 1 ≤ 8 → (nodes : List Node) → AreNodes nodes
    → AreSettled d q (labels_of nodes) → (n : Node) → IsNext nodes n → IsFirstCrossing d q (labels_of nodes) (walk_of nodes n) (state_of n)
    → AreNodes (nodes ++ (n ∷ [])) × AreSettled d q (labels_of (nodes ++ (n ∷ []))) × (length nodes + 1 ≤ (length q.hops + 1) * 1024)
settled_by d q from few legs nodes are settled n next crossing =
    let left = crossing.crosses.still_open in
    let after = settled_push d q (labels_of nodes) settled (walk_of nodes n) (state_of n) crossing (labels_of (nodes ++ (n ∷ []))) (labels_push nodes n are next left) in
    let most = legs_few d q (nodes ++ (n ∷ [])) (apart_push nodes n are.apart left) after from few in
    let room : length nodes + 1 ≤ (length q.hops + 1) * 1024 = omega (arith, most, length_push nodes n) in
    (nodes_push nodes n are next left (omega arith), after, room)

-- The first node (the record of a walk) that the settled nodes lead to, by a link or by a step to
-- the next leg, may be appended: the walks of all nodes are then settled, and there are at most
-- 1,024 nodes for each leg.
pub settled_more : (d : Database) (q : Request) (links : List Link) → AreLinksOf d links → IsRouterOf d q.from → HasFewRouters d → length q.hops + 1 ≤ 8
    → (nodes : List Node) → AreNodes nodes → AreSettled d q (labels_of nodes) → (n : Node) → IsFirstOf nodes (CrossesBelow d q nodes links (length nodes)) n
    → AreNodes (nodes ++ (n ∷ [])) × AreSettled d q (labels_of (nodes ++ (n ∷ []))) × (length nodes + 1 ≤ (length q.hops + 1) * 1024)
settled_more d q links listed from few legs nodes are settled n first =
    settled_by d q from few legs nodes are settled n first.next (first_crossing d q links listed nodes are.apart settled n first)

only_root : (q : Request) (i : ℕ) (s : State) (w : List Link) → i < 1 → state_of (slice_index_or (root_of q ∷ []) i nowhere) ≡ s → walk_at (walks (root_of q ∷ [])) i ≡ w
    → (s ≡ start_of q) × (w ≡ [])
only_root q i s w h at is = search rules

-- The nodes (records of walks) at the start of a search: the only node is the head-end in the first
-- leg.
pub root_nodes : (q : Request) → AreNodes (root_of q ∷ [])
root_nodes q = nodes_root (root_of q) (record { parent = refl; by = refl }) refl refl

pub root_settled : (d : Database) (q : Request) → AreSettled d q (labels_of (root_of q ∷ []))
root_settled d q =
    let nodes = root_of q ∷ [] in
    let is_root : (s : State) (w : List Link) → labels_of (root_of q ∷ []) s ≡ Some w → (s ≡ start_of q) × (w ≡ []) =
    λ s w is. let at = label_from (root_of q ∷ []) s w nowhere is in only_root q at.0 s w at.1 at.2 at.3 in
    record {
      start = label_at (root_of q ∷ []) (root_nodes q).apart 0 nowhere (omega arith);
      reached = λ s w is. let e = is_root s w is in rw (e.0, e.1) starts;
      least = λ s w x is r. let e = is_root s w is in rw e.1 (first_empty x);
    }
