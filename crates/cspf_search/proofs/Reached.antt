-- What holds before each round of the search with a heap, and what holds of the search's result.
use Rattle.std.proofs.Common.{◌≡◌, ◌<◌, ◌⊎◌, inl, inr, ℕ, zero, suc, ◌+◌, ◌-◌, ◌*◌, ◌/◌, ◌%◌, ◌≤◌, Some, None, option_map, List, [], ◌∷◌, ◌++◌, length, set, slice_get, slice_index, slice_index_or, refl, sym, ap, subst, ◌∙◌, arith, rules}
use Rattle.std.specs.List.{Contains}
use Rattle.std.proofs.lemmas.Bool.{cases_lt}
use Rattle.std.proofs.lemmas.List.{get_or_push, get_or_read, length_push}
use Rattle.std.proofs.lemmas.List.Elements.{All-weaker, Contains-get_or}
use Rattle.cspf_model.specs.declared.link.Link.{Link}
use Rattle.cspf_model.specs.declared.request.Request.{Request}
use Rattle.cspf_model.specs.Database.{Database, AreLinksOf, IsRouterOf}
use Rattle.cspf_model.specs.Routes.{IsRoute}
use Rattle.cspf_model.specs.Targets.{IsTarget, IsTargetOf}
use Rattle.cspf_db.specs.Index.{links_of, router_list}
use Rattle.cspf_search.specs.declared.arena.Node.{Node}
use Rattle.cspf_search.specs.declared.goal.Goal.{Goal}
use Rattle.cspf_search.specs.declared.labels.Label.{Label}
use Rattle.cspf_graph.specs.declared.roles.Role.{Role}
use Rattle.cspf_search.specs.States.{State, end_state}
use Rattle.cspf_graph.specs.Roles.{MayTurn, IsStateIndex, AreRoles}
use Rattle.cspf_search.specs.Settled.{Labels, AreSettled, IsClosed}
use Rattle.cspf_search.specs.Arena.{walk_at, walks, state_of, index_of, labels_of, AreNodes, root_of}
use Rattle.cspf_search.specs.Rounds.{CrossesBelow}
use Rattle.cspf_search.specs.declared.limits.TheConstants.{NO_WAY}
use Rattle.cspf_search.specs.Bounds.{AreBounds, bound_at}
use Rattle.cspf_search.specs.Frontier.{state_at, IsRaised, IsNodeAt, nowhere, node_of, IsReached, HeapKey, label_at, no_label, lift, IsKey, IsLive, AreLabels, IsLeast, IsFloor}
use Rattle.cspf_graph.specs.Lists.{AreListed, IsIndexOf}
use Rattle.cspf_graph.specs.RoleSteps.{nothing}
use Rattle.cspf_search.proofs.Few.{HasFewRouters}
use Rattle.cspf_search.proofs.Cuts.{last_target}
use Rattle.cspf_search.proofs.Labelled.{open_index}
use Rattle.cspf_search.proofs.Grown.{settled_by}
use Rattle.cspf_graph.proofs.RouterIndexes.{one_place}
use Rattle.cspf_search.proofs.Ranks.{state_apart, index_for}
use Rattle.cspf_search.proofs.Pushed.{index_new, open_old, open_new, labels_settle}
use Rattle.cspf_search.proofs.Settles.{no_route}
use Rattle.cspf_search.proofs.Popped.{open_rank, shut_start, first_popped, popped, nothing_left, root_only, goal_index, goal_state}

-- What a search is given: a database, a request, the indexes of the head-end and the tail-end in
-- the list of routers, and the goal.
pub record IsAsked (d : Database) (q : Request) (legs from to : ℕ) (goal : Goal) : Type 0 where
  pub links : AreLinksOf d (links_of d)
  pub listed : AreListed d
  pub few : HasFewRouters d
  pub count : legs ≡ length q.hops + 1
  pub most : legs ≤ 8
  pub start : IsIndexOf d q.from from
  pub end : IsIndexOf d q.to to
  pub at : goal.at ≡ (legs - 1) * 1024 + to
  pub bounds : AreBounds d q goal.bounds.now

-- The search goes on. The walks of its nodes are settled, but the tail-end isn't settled in the
-- last leg yet. The labels and the keys meet `AreLabels`. A node is the record of a walk, and a
-- label holds the best walk found so far to a state (a router in a leg).
pub record IsUnderWay (d : Database) (q : Request) (goal : Goal) (nodes : List Node) (labels : List Label) (keys : List HeapKey) : Type 0 where
  pub arena : AreNodes nodes
  pub settled : AreSettled d q (labels_of nodes)
  pub left : index_of nodes (state_at d goal.at) ≡ None
  pub floor : IsFloor d q (labels_of nodes) goal
  pub labelled : AreLabels d q nodes (CrossesBelow d q nodes (links_of d) (length nodes)) goal labels keys

-- The least key is popped from the heap. `i` is the index of its state, `rest` has the keys that
-- are left, and `node` is the node for the walk that the state's label holds. A state is a router
-- in a leg, and a node is the record of a walk. A label holds the best walk found so far to a
-- state.
pub record IsTaken (d : Database) (q : Request) (legs from to : ℕ) (goal : Goal) (nodes : List Node) (labels : List Label) (keys : List HeapKey) (i : ℕ) (rest : List HeapKey) (node : Node) : Type 0 where
  pub asked : IsAsked d q legs from to goal
  pub before : IsUnderWay d q goal nodes labels keys
  pub least : IsLeast d q goal labels keys i rest
  pub is : node ≡ node_of d nodes (label_at labels i)

pub taken : (d : Database) (q : Request) (legs from to : ℕ) (goal : Goal) (nodes : List Node) (labels : List Label) (keys : List HeapKey) (i : ℕ) (rest : List HeapKey) (node : Node)
    → IsAsked d q legs from to goal → IsUnderWay d q goal nodes labels keys → IsLeast d q goal labels keys i rest → (label : Label) → label ≡ slice_index_or labels i label
    → node ≡ node_of d nodes label → IsTaken d q legs from to goal nodes labels keys i rest node
taken d q legs from to goal nodes labels keys i rest node asked before least label at is = search (rules, get_or_read)

module _ (d : Database) (q : Request) (legs from to : ℕ) (goal : Goal) (asked : IsAsked d q legs from to goal) where
  known : IsRouterOf d q.from
  known = (asked.listed.known q.from).0 (rw asked.start.is at (Contains-get_or (router_list d) from 0 asked.start.within))

  known_end : IsRouterOf d q.to
  known_end = (asked.listed.known q.to).0 (rw asked.end.is at (Contains-get_or (router_list d) to 0 asked.end.within))

  goal_there : IsStateIndex d q goal.at
  goal_there = rw asked.at (goal_index d q asked.listed to legs asked.count asked.end)

  goal_end : state_at d goal.at ≡ end_state q
  goal_end = ap (state_at d) asked.at ∙ goal_state d q asked.listed to legs asked.count asked.end

  goal_apart : goal.at ≡ from → ⊥
  goal_apart e = search rules

  -- At the start of a search, the tail-end isn't settled in the last leg.
  pub first_left : index_of (root_of q ∷ []) (state_at d goal.at) ≡ None
  first_left = root_only d q asked.listed from asked.start goal.at goal_there goal_apart

  -- At the start of a search, no leg is closed, and the floor is 0. The floor is the first index
  -- after the states (routers in legs) of the closed legs.
  pub first_floor : goal.floor ≡ 0 → (labels : Labels) → IsFloor d q labels goal
  first_floor none labels = record { low = omega (arith, none); shut = λ low. absurd (omega (arith, low, none)) }

  -- If the bound of the head-end in the first leg is `NO_WAY`, there is no route.
  pub no_start : bound_at goal.bounds.now from ≡ NO_WAY → (w : List Link) → IsRoute d q w → ⊥
  no_start = shut_start d q asked.listed from asked.start goal asked.bounds goal_there goal_end

  module _ (nodes : List Node) (labels : List Label) (keys : List HeapKey) (before : IsUnderWay d q goal nodes labels keys) where
    -- If the heap has no live key, and the tail-end isn't settled in the last leg, there is no
    -- route. A key is live if the present label of its state gives this key, and the state isn't in
    -- a closed leg. A state is a router in a leg, and a label holds the best walk found so far to a
    -- state.
    pub ended : ((key : HeapKey) → Contains keys key → IsLive goal labels key → ⊥) → labels_of nodes (end_state q) ≡ None → (w : List Link) → IsRoute d q w → ⊥
    ended none =
        no_route d q (labels_of nodes) before.settled (nothing_left d q asked.links asked.listed known nodes before.arena before.settled goal goal_there labels keys before.labelled before.left asked.bounds goal_end before.floor none)

    -- If the key of a state is the least key, the parent in the state's label is one of the nodes.
    -- A node is the record of a walk, and a label holds the best walk found so far to a state.
    pub parent_there : (i : ℕ) (rest : List HeapKey) → IsLeast d q goal labels keys i rest → (label : Label) → label ≡ slice_index_or labels i label → label.parent < length nodes
    parent_there i rest least label at =
        let reached =
        popped d q asked.links asked.listed known nodes before.arena before.settled goal goal_there labels keys before.labelled before.left asked.bounds goal_end before.floor i rest least in
        let same : label ≡ label_at labels i = get_or_read labels i label (omega (arith, least.index.low, before.labelled.many)) at no_label in
        omega (arith, reached.parent, ap (λ (l : Label). l.parent) same)

    module _ (i : ℕ) (rest : List HeapKey) (least : IsLeast d q goal labels keys i rest) (node : Node) (is : node ≡ node_of d nodes (label_at labels i)) where
      reached : IsReached d nodes (CrossesBelow d q nodes (links_of d) (length nodes)) (label_at labels goal.at).rank (lift goal i) (state_at d i) (label_at labels i)
      reached =
          popped d q asked.links asked.listed known nodes before.arena before.settled goal goal_there labels keys before.labelled before.left asked.bounds goal_end before.floor i rest least

      state : state_of node ≡ state_at d i
      state = ap state_of is ∙ reached.state

      -- After the node (the record of a walk) for the least key is appended, the nodes still form a
      -- tree of settled walks. There are at most 1,024 nodes for each leg of the request.
      pub stepped : AreNodes (nodes ++ (node ∷ [])) × AreSettled d q (labels_of (nodes ++ (node ∷ []))) × (length nodes + 1 ≤ (length q.hops + 1) * 1024)
      stepped =
          rw is
          (settled_by d q known asked.few (omega (arith, asked.count, asked.most)) nodes before.arena before.settled (node_of d nodes (label_at labels i)) reached.next
          (first_popped d q asked.links asked.listed known nodes before.arena before.settled goal goal_there labels keys before.labelled before.left asked.bounds goal_end before.floor i rest least))

      pub stepped_few : length (nodes ++ (node ∷ [])) ≤ legs * 1024
      stepped_few = omega (arith, stepped.2, asked.count, length_push nodes node)

      pub node_there : IsNodeAt d q (nodes ++ (node ∷ [])) (length nodes) i
      node_there = record {
        within = omega (arith, length_push nodes node);
        index = least.index;
        there = ap state_of (get_or_push nodes node nowhere (length nodes) refl) ∙ state;
      }

      -- If the least key is that of the goal, the goal is settled after the node (the record of a
      -- walk) for this key is appended. The goal is the tail-end in the last leg.
      pub at_goal : i ≡ goal.at → labels_of (nodes ++ (node ∷ [])) (end_state q) ≡ None → ⊥
      at_goal e none =
          let same : state_of node ≡ end_state q = state ∙ ap (state_at d) e ∙ goal_end in
          let there = ap (index_of (nodes ++ (node ∷ []))) (sym same) ∙ index_new nodes node before.arena.apart stepped.0.apart in
          let open_there = open_index (nodes ++ (node ∷ [])) (end_state q) none in
          cc

      -- If the least key isn't that of the goal, the labels still meet `AreLabels` after the node
      -- for this key is appended to the settled nodes. A node is the record of a walk, and a label
      -- holds the best walk found so far to a state.
      pub settle : (i ≡ goal.at → ⊥) → (label : Label) → label.rank ≡ 0
          → AreLabels d q (nodes ++ (node ∷ [])) (CrossesBelow d q (nodes ++ (node ∷ [])) (links_of d) (length nodes)) goal (set labels i label) rest
      settle off label none =
          labels_settle nodes node before.arena.apart stepped.0.apart d q asked.listed goal labels keys before.labelled i rest least state (λ e. off (sym e)) label none

      pub still_left : (i ≡ goal.at → ⊥) → index_of (nodes ++ (node ∷ [])) (state_at d goal.at) ≡ None
      still_left off =
          open_new nodes node before.arena.apart stepped.0.apart (state_at d goal.at)
          (λ e. off (sym (state_apart d q asked.listed goal.at i goal_there least.index (e ∙ state)))) before.left

      -- A closed leg stays closed after one more node is appended to the settled nodes. A leg is
      -- closed once all its targets at which a route may go on to the next leg are settled. A node
      -- is the record of a walk, and a leg's targets are the routers where it may end.
      closed_still : (leg : ℕ) → IsClosed d q (labels_of nodes) leg → IsClosed d q (labels_of (nodes ++ (node ∷ []))) leg
      closed_still leg shut low router target none =
          let s : State = record { leg = leg; router = router } in
          let left = open_old nodes node before.arena.apart stepped.0.apart s (open_index (nodes ++ (node ∷ [])) s none) in
          shut low router target (ap (option_map (λ i. walk_at (walks nodes) i)) left)

      module _ (roles : List Role) (told : AreRoles d q roles) (floor : ℕ) where
        target_known : (leg router : ℕ) → 1 ≤ leg → IsTarget d q leg router → IsRouterOf d router
        target_known zero router low target = absurd (omega (arith, low))
        target_known (suc k) router low target =
            elim (slice_get q.hops k) as (λ o. IsTargetOf d q.to o router → IsRouterOf d router) [
              | Some hop ↦ λ owns. owns.known
              | None ↦ λ same. subst (IsRouterOf d) (sym same) known_end
            ] target

        module _ (P : List Link → State → Type 0) (after : List Label) (left : List HeapKey) (are : AreLabels d q (nodes ++ (node ∷ [])) P goal after left) where
          -- If a state in the last leg is settled and the floor rises, this state is the goal,
          -- because the tail-end is the only target of the last leg. The floor is the first index
          -- after the states (routers in legs) of the closed legs.
          last_alone : IsRaised d roles after i floor → i / 1024 ≡ goal.at / 1024 → i ≡ goal.at
          last_alone raised same =
              let leg : i / 1024 + 1 ≡ suc (length q.hops) = omega (arith, same, ap (λ (t : State). t.leg) goal_end) in
              let target = rw leg at ((told.each i nothing least.index).target.0 raised.target).target in
              let arrives : slice_index (router_list d) (i % 1024) ≡ q.to = subst (λ (T : Type 0). T) (last_target d q (slice_index (router_list d) (i % 1024))) target in
              let here : IsIndexOf d q.to (i % 1024) = record { within = least.index.place; is = arrives } in
              let place = one_place d asked.listed q.to (i % 1024) to here asked.end in
              omega (arith, same, place, asked.at, asked.end.within, asked.listed.few)

          -- If the floor rises to the next leg, the leg below it is closed: all targets of this leg
          -- at which a route may go on to the next leg are settled. The floor is the first index
          -- after the states of the closed legs. A state is a router in a leg, and a leg's targets
          -- are the routers where it may end.
          closes : IsRaised d roles after i floor → IsClosed d q (labels_of (nodes ++ (node ∷ []))) (floor / 1024)
          closes raised low router target none =
              let s : State = record { leg = floor / 1024; router = router } in
              let leg : floor / 1024 ≡ i / 1024 + 1 = omega (arith, raised.next) in
              let at = index_for d q asked.listed s (target_known (floor / 1024) router low target.target) low (omega (arith, leg, least.index.low)) in
              let there = (told.each at.0 nothing at.1).target.1 (subst (λ (t : State). MayTurn d q t.leg t.router) at.2 target) in
              let same : at.0 / 1024 ≡ i / 1024 = omega (arith, leg, ap (λ (t : State). t.leg) at.2) in
              let behind : goal.floor ≤ at.0 = omega (arith, same, least.behind, are.whole) in
              let zero = raised.settled at.0 at.1.place same there in
              let open_there = ap (index_of (nodes ++ (node ∷ []))) (sym at.2) ∙ open_index (nodes ++ (node ∷ [])) s none in
              let some = open_rank d (nodes ++ (node ∷ [])) P (label_at after goal.at).rank (lift goal at.0) (state_at d at.0) (label_at after at.0) (are.each at.0 at.1 behind) open_there in
              omega (arith, some, zero)

          -- If the state that is settled isn't the goal, the new floor meets `IsFloor`: the goal
          -- isn't below it, and the last leg below it, if there is one, is closed. The floor is the
          -- first index after the states (routers in legs) of the closed legs.
          pub floor_on : (i ≡ goal.at → ⊥) → (floor ≡ goal.floor) ⊎ IsRaised d roles after i floor
              → IsFloor d q (labels_of (nodes ++ (node ∷ []))) (record { at = goal.at; floor = floor; bounds = goal.bounds })
          floor_on off (inl same) = record {
            low = omega (arith, same, before.floor.low);
            shut = rw same (closed_still (goal.floor / 1024) before.floor.shut);
          }
          floor_on off (inr raised) = record {
            low =
                elim (cases_lt (i / 1024) (goal.at / 1024)) [
                  | inl lt ↦ omega (arith, lt, raised.next)
                  | inr ge ↦ absurd (off (last_alone raised (omega (arith, ge, least.index.low, ap (λ (t : State). t.leg) goal_end))))
                ];
            shut = closes raised;
          }

          -- The floor may rise when a leg is closed. The labels of the states from the new floor on
          -- then still meet `AreLabels`. The floor is the first index after the states of the
          -- closed legs. A state is a router in a leg, and a label holds the best walk found so far
          -- to a state.
          pub labels_on : (floor ≡ goal.floor) ⊎ IsRaised d roles after i floor
              → AreLabels d q (nodes ++ (node ∷ [])) P (record { at = goal.at; floor = floor; bounds = goal.bounds }) after left
          labels_on choice =
              let up : goal.floor ≤ floor = elim choice [ inl same ↦ omega (arith, same) | inr raised ↦ omega (arith, raised.next, least.behind) ] in
              let next : Goal = record { at = goal.at; floor = floor; bounds = goal.bounds } in
              record {
                small = are.small;
                bounds = are.bounds;
                whole = elim choice [ inl same ↦ omega (arith, same, are.whole) | inr raised ↦ omega (arith, raised.next) ];
                many = are.many;
                each = λ j jx behind. are.each j jx (omega (arith, up, behind));
                ordered = are.ordered;
                keyed = All-weaker (IsKey d q goal) (IsKey d q next) (λ k key. record { some = key.some; most = key.most; index = key.index }) left are.keyed;
                waiting = λ j jx behind some most. are.waiting j jx (omega (arith, up, behind)) some most;
              }
