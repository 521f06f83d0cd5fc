-- The waiting state (a router in a leg) with the least key is the next one to settle. If no key in
-- the heap counts any more, the search is finished: no link and no step to the next leg leads from
-- a settled state to one that isn't settled, except into closed legs.
use Rattle.std.proofs.Common.{◌≡◌, ◌≢◌, inl, inr, ℕ, suc, ◌+◌, ◌-◌, ◌*◌, ◌/◌, ◌%◌, ◌<◌, ◌≤◌, true, Some, None, List, [], ◌∷◌, length, set, replicate, slice_index, refl, sym, ap, subst, ◌∙◌, arith, length-set, rules}
use Rattle.std.specs.List.{Contains}
use Rattle.std.specs.BinaryHeap.{IsHeap}
use Rattle.std.proofs.lemmas.Cmp.{upto}
use Rattle.std.proofs.lemmas.List.{get_or-set_same, get_or-set_other, get_or-replicate, length-replicate}
use Rattle.std.proofs.lemmas.List.Elements.{All-nil}
use Rattle.std.proofs.lemmas.List.Quantifiers.{position-Some}
use Rattle.cspf_model.specs.declared.link.Link.{Link}
use Rattle.cspf_model.specs.declared.request.Request.{Request}
use Rattle.cspf_model.specs.Database.{Database, AreLinksOf, IsRouterOf}
use Rattle.cspf_model.specs.Routes.{IsRoute}
use Rattle.cspf_model.specs.Targets.{IsTarget}
use Rattle.cspf_db.specs.Index.{links_of, router_list}
use Rattle.cspf_search.specs.declared.arena.Node.{Node}
use Rattle.cspf_search.specs.declared.goal.Goal.{Goal}
use Rattle.cspf_search.specs.declared.labels.Label.{Label}
use Rattle.cspf_search.specs.declared.limits.TheConstants.{NO_WAY}
use Rattle.cspf_search.specs.States.{State, steps, start_of, end_state}
use Rattle.cspf_graph.specs.Roles.{MayTurn, IsStateIndex}
use Rattle.cspf_search.specs.Settled.{RanksNoLater, AreSettled, Crosses, IsStuck, IsFirstCrossing}
use Rattle.cspf_search.specs.Arena.{walk_of, walk_rank, state_of, same_state, index_of, labels_of, AreNodes, root_of}
use Rattle.cspf_search.specs.Rounds.{CrossesBelow}
use Rattle.cspf_search.specs.Bounds.{AreBounds, bound_at}
use Rattle.cspf_search.specs.Frontier.{IsFloor, state_at, nowhere, node_of, no_rank, lift, IsBeyond, IsReached, IsLabel, is_settled, is_reached, is_unreached, HeapKey, heap_key_cmp, key_at, label_at, IsKey, IsLive, AreLabels, IsLeast}
use Rattle.cspf_graph.specs.Lists.{AreListed, IsIndexOf}
use Rattle.cspf_search.proofs.Orders.{potentials_total, rank_from_walk}
use Rattle.cspf_search.proofs.Settles.{no_way}
use Rattle.cspf_search.proofs.Cuts.{reached_leg, last_target}
use Rattle.cspf_search.proofs.Labelled.{same_state-true, open_index, index_at}
use Rattle.cspf_search.proofs.Grown.{reached_router, crosses_from, crosses_to, root_nodes}
use Rattle.cspf_graph.proofs.RouterIndexes.{same_or_not}
use Rattle.cspf_search.proofs.Ranks.{before_by_rank, rank_before, rank_tied, rank_is, walk_short, rank_small, crossing_short, state_apart, index_for, potential_of, potential_at, lift_is, potential_consistent}

-- The label of a state that isn't settled has a rank above 0. A state is a router in a leg, and a
-- label holds the best walk found so far to a state. A walk's rank packs its cost and its number of
-- links into one number.
pub open_rank : (d : Database) (nodes : List Node) (P : List Link → State → Type 0) (cap ahead : ℕ) (t : State) (label : Label) → IsLabel d nodes P cap ahead t label
    → index_of nodes t ≡ None → 0 < label.rank
open_rank d nodes P cap ahead t label h1 left = search rules

-- If a state isn't settled, and a walk to this state is known, the state's label meets `IsReached`:
-- it holds the best walk so far. A state is a router in a leg.
pub reached_of : (d : Database) (nodes : List Node) (P : List Link → State → Type 0) (cap ahead : ℕ) (t : State) (label : Label) → IsLabel d nodes P cap ahead t label
    → 0 < label.rank → label.rank < no_rank → IsReached d nodes P cap ahead t label
reached_of d nodes P cap ahead t label h1 some most = search rules

-- The bound of the tail-end in the last leg is 0.
pub goal_bound : (d : Database) (q : Request) (goal : Goal) → AreBounds d q goal.bounds.now → IsStateIndex d q goal.at → state_at d goal.at ≡ end_state q → bound_at goal.bounds.now goal.at ≡ 0
goal_bound d q goal bounds there end =
    let last : length q.hops + 1 ≡ suc (length q.hops) = omega arith in
    let target : IsTarget d q (end_state q).leg (end_state q).router = rw last (subst (λ (T : Type 0). T) (sym (last_target d q q.to)) refl) in
    let there_too : MayTurn d q (goal.at / 1024 + 1) (slice_index (router_list d) (goal.at % 1024)) = subst (λ (s : State). MayTurn d q s.leg s.router) (sym end) (record { target = target; stands = inr (inr refl) }) in
    bounds.last goal.at there (omega (arith, ap (λ (s : State). s.leg) end)) there_too

module _ (d : Database) (q : Request) (of : AreLinksOf d (links_of d)) (listed : AreListed d) (from : IsRouterOf d q.from) (nodes : List Node) (are : AreNodes nodes)
    (settled : AreSettled d q (labels_of nodes)) (goal : Goal) (there : IsStateIndex d q goal.at) (labels : List Label) (keys : List HeapKey)
    (before : AreLabels d q nodes (CrossesBelow d q nodes (links_of d) (length nodes)) goal labels keys) (left : index_of nodes (state_at d goal.at) ≡ None)
    (bounds : AreBounds d q goal.bounds.now) (end : state_at d goal.at ≡ end_state q) (floor : IsFloor d q (labels_of nodes) goal) where
  abbrev cap : ℕ
  cap = (label_at labels goal.at).rank

  -- If a walk continues a settled walk by one step to a state (a router in a leg) that isn't
  -- settled, this state has an index.
  crossing_index : (w : List Link) (u : State) → Crosses d q (labels_of nodes) w u → (j : ℕ) × IsStateIndex d q j × (u ≡ state_at d j)
  crossing_index w u c =
      let r = steps (settled.reached c.state c.front c.settled) c.step in
      let leg = reached_leg d q w u r in
      index_for d q listed u (reached_router d q from w u r) leg.0 leg.1

  short : (w : List Link) (u : State) → Crosses d q (labels_of nodes) w u → length w < 16384
  short w u c = let x = crosses_to d q (links_of d) of nodes are.apart w u c in crossing_short d q nodes are (links_of d) x.0 x.1 w u x.2

  capped : 0 < cap
  capped = open_rank d nodes (CrossesBelow d q nodes (links_of d) (length nodes)) cap (lift goal goal.at) (state_at d goal.at) (label_at labels goal.at) (before.each goal.at there floor.low) left

  -- The lift of the goal is 0, because the goal is the tail-end in the last leg, and its bound is
  -- 0. The lift of a state is how much its key in the heap exceeds the rank in its label.
  goal_lift : lift goal goal.at ≡ 0
  goal_lift = search (rules, goal_bound)

  goal_waits : cap < no_rank → Contains keys (key_at (cap + lift goal goal.at) goal.at)
  goal_waits known = before.waiting goal.at there floor.low capped known

  -- If a state is in a leg after the closed legs, its index is at least the floor, the first index
  -- after the states (routers in legs) of the closed legs.
  behind_floor : (u : State) → goal.floor / 1024 < u.leg → (j : ℕ) → u ≡ state_at d j → goal.floor ≤ j
  behind_floor u h j is = omega (arith, h, ap (λ (s : State). s.leg) is, before.whole)

  module _ (i : ℕ) (rest : List HeapKey) (least : IsLeast d q goal labels keys i rest) where
    abbrev n : Node
    n = node_of d nodes (label_at labels i)

    here : IsReached d nodes (CrossesBelow d q nodes (links_of d) (length nodes)) cap (lift goal i) (state_at d i) (label_at labels i)
    here = reached_of d nodes (CrossesBelow d q nodes (links_of d) (length nodes)) cap (lift goal i) (state_at d i) (label_at labels i) (before.each i least.index least.behind) least.some least.most

    rank : (label_at labels i).rank ≡ walk_rank (walk_of nodes n)
    rank = here.rank ∙ rank_is nodes are n here.next

    -- If a walk's rank plus its state's lift exceeds `cap`, the rank in the goal's label, this sum
    -- also exceeds the first part of the least key. The lift of a state is how much its key in the
    -- heap exceeds the rank in its label. A state is a router in a leg, and a label holds the best
    -- walk found so far to a state. A walk's rank packs its cost and its number of links into one
    -- number.
    behind : (ahead : ℕ) (w : List Link) → IsBeyond cap ahead w → walk_rank (walk_of nodes n) + lift goal i < walk_rank w + ahead
    behind ahead w beyond =
        elim (least.first (key_at (cap + lift goal goal.at) goal.at) (goal_waits beyond.known) (record { behind = floor.low; same = refl })) [
          | inl lt ↦ omega (arith, lt, goal_lift, beyond.behind, rank)
          | inr tie ↦ omega (arith, goal_lift, beyond.behind, rank, tie.0)
        ]

    lift_at : (j : ℕ) → IsStateIndex d q j → lift goal j ≡ potential_of d goal (state_at d j) * 16384
    lift_at j jx = lift_is d q listed goal bounds j jx

    passed : (j : ℕ) → IsStateIndex d q j → (x : List Link) → length x < 16384 → IsBeyond cap (lift goal j) x
        → RanksNoLater (potential_of d goal) (state_at d i) (walk_of nodes n) (state_at d j) x
    passed j jx x high beyond =
        rank_before (potential_of d goal) (state_at d i) (state_at d j) (walk_of nodes n) x high
        (omega (arith, behind (lift goal j) x beyond, lift_at i least.index, lift_at j jx))

    first_rank : (j : ℕ) → IsStateIndex d q j → goal.floor ≤ j → (x : List Link) → length x < 16384 → CrossesBelow d q nodes (links_of d) (length nodes) x (state_at d j)
        → index_of nodes (state_at d j) ≡ None → (label : Label) → label ≡ label_at labels j
        → IsLabel d nodes (CrossesBelow d q nodes (links_of d) (length nodes)) cap (lift goal j) (state_at d j) label
        → RanksNoLater (potential_of d goal) (state_at d i) (walk_of nodes n) (state_at d j) x
    first_rank j jx ahead x high p clear label is (is_settled k none e) = absurd (cc)
    first_rank j jx ahead x high p clear label is (is_reached o r) =
        let m = node_of d nodes label in
        let rank_of_m : label.rank ≡ walk_rank (walk_of nodes m) = r.rank ∙ rank_is nodes are m r.next in
        let same = ap (λ (l : Label). l.rank) is in
        let key = before.waiting j jx ahead (omega (arith, r.rank, same)) (omega (arith, r.rank, rank_small nodes are m r.next, same)) in
        elim (r.first x p) [
          | inl late ↦
              upto (potentials_total (potential_of d goal)) (state_at d i, walk_of nodes n) (state_at d j, walk_of nodes m) (state_at d j, x)
              (elim (least.first (key_at ((label_at labels j).rank + lift goal j) j) key (record { behind = ahead; same = refl })) [
                | inl lt ↦
                    rank_before (potential_of d goal) (state_at d i) (state_at d j) (walk_of nodes n) (walk_of nodes m) (walk_short nodes are m r.next)
                    (omega (arith, lt, rank, rank_of_m, same, lift_at i least.index, lift_at j jx))
                | inr tie ↦
                    rank_tied (potential_of d goal) (state_at d i) (state_at d j) (walk_of nodes n) (walk_of nodes m) (walk_short nodes are m r.next)
                    (walk_short nodes are n here.next) (omega (arith, tie.0, rank, rank_of_m, same, lift_at i least.index, lift_at j jx)) (omega (arith, tie.1))
              ])
              (rank_from_walk (potential_of d goal) (state_at d j) (walk_of nodes m) x late)
          | inr beyond ↦ passed j jx x high beyond
        ]
    first_rank j jx ahead x high p clear label is (is_unreached o none f) = passed j jx x high (f x p)

    first_at : IsFirstCrossing d q (labels_of nodes) (walk_of nodes n) (state_at d i)
    first_at = record {
      crosses = crosses_from d q (links_of d) of nodes are.apart (walk_of nodes n) (state_at d i) here.passes;
      first_here = λ x c.
          elim (here.first x (crosses_to d q (links_of d) of nodes are.apart x (state_at d i) c)) [
            | inl late ↦ late
            | inr beyond ↦ before_by_rank (walk_of nodes n) x (omega (arith, behind (lift goal i) x beyond)) (short x (state_at d i) c)
          ];
      closed = goal.floor / 1024;
      is_closed = floor.shut;
      behind = omega (arith, least.behind, before.whole);
      potential = potential_of d goal;
      consistent = potential_consistent d q listed goal bounds;
      first = λ x u c behind.
          let at = crossing_index x u c in
          let p = subst (CrossesBelow d q nodes (links_of d) (length nodes) x) at.2 (crosses_to d q (links_of d) of nodes are.apart x u c) in
          let clear = ap (index_of nodes) (sym at.2) ∙ open_index nodes u c.still_open in
          subst (λ s. RanksNoLater (potential_of d goal) (state_at d i) (walk_of nodes n) s x) (sym at.2)
          (first_rank at.0 at.1 (behind_floor u behind at.0 at.2) x (short x u c) p clear (label_at labels at.0) refl (before.each at.0 at.1 (behind_floor u behind at.0 at.2)));
    }

    pub first_popped : IsFirstCrossing d q (labels_of nodes) (walk_of nodes n) (state_of n)
    first_popped = subst (IsFirstCrossing d q (labels_of nodes) (walk_of nodes n)) (sym here.state) first_at

    pub popped : IsReached d nodes (CrossesBelow d q nodes (links_of d) (length nodes)) cap (lift goal i) (state_at d i) (label_at labels i)
    popped = here

  module _ (none : (key : HeapKey) → Contains keys key → IsLive goal labels key → ⊥) where
    uncrossed : (j : ℕ) → IsStateIndex d q j → goal.floor ≤ j → (x : List Link) → CrossesBelow d q nodes (links_of d) (length nodes) x (state_at d j) → index_of nodes (state_at d j) ≡ None
        → (label : Label) → label ≡ label_at labels j → IsLabel d nodes (CrossesBelow d q nodes (links_of d) (length nodes)) cap (lift goal j) (state_at d j) label → ⊥
    uncrossed j jx ahead x p clear label is (is_settled k zeros e) = cc
    uncrossed j jx ahead x p clear label is (is_reached o r) =
        let same = ap (λ (l : Label). l.rank) is in
        let small = rank_small nodes are (node_of d nodes label) r.next in
        none (key_at ((label_at labels j).rank + lift goal j) j) (before.waiting j jx ahead (omega (arith, r.rank, same)) (omega (arith, r.rank, small, same))) (record { behind = ahead; same = refl })
    uncrossed j jx ahead x p clear label is (is_unreached o far f) = none (key_at (cap + lift goal goal.at) goal.at) (goal_waits (f x p).known) (record { behind = floor.low; same = refl })

    pub nothing_left : IsStuck d q (labels_of nodes)
    nothing_left = record {
      closed = goal.floor / 1024;
      is_closed = floor.shut;
      low = omega (arith, floor.low, ap (λ (s : State). s.leg) end, before.whole);
      none = λ w u c behind.
          let at = crossing_index w u c in
          let p = subst (CrossesBelow d q nodes (links_of d) (length nodes) w) at.2 (crosses_to d q (links_of d) of nodes are.apart w u c) in
          let clear = ap (index_of nodes) (sym at.2) ∙ open_index nodes u c.still_open in
          let ahead = behind_floor u behind at.0 at.2 in
          uncrossed at.0 at.1 ahead w p clear (label_at labels at.0) refl (before.each at.0 at.1 ahead);
    }

-- Lemmas on the head-end in the first leg, and on the labels at the start of a search. A label
-- holds the best walk found so far to a state, which is a router in a leg.

module _ (d : Database) (q : Request) (listed : AreListed d) (place : ℕ) (at : IsIndexOf d q.from place) where
  start_index : IsStateIndex d q place
  start_index = record { low = omega (arith, at.within, listed.few); place = let e : place % 1024 ≡ place = omega (arith, at.within, listed.few) in rw e at.within }

  start_state : start_of q ≡ state_at d place
  start_state = search rules

  -- If the bound of the head-end in the first leg is `NO_WAY`, there is no route.
  pub shut_start : (goal : Goal) → AreBounds d q goal.bounds.now → IsStateIndex d q goal.at → state_at d goal.at ≡ end_state q → bound_at goal.bounds.now place ≡ NO_WAY
      → (w : List Link) → IsRoute d q w → ⊥
  shut_start goal bounds there end none =
      let at_end = ap (potential_of d goal) (sym end) ∙ potential_at d q listed goal bounds goal.at there ∙ goal_bound d q goal bounds there end in
      let at_start = ap (potential_of d goal) start_state ∙ potential_at d q listed goal bounds place start_index ∙ none in
      no_way d q (potential_of d goal) (potential_consistent d q listed goal bounds) at_end at_start

  pub root_only : (j : ℕ) → IsStateIndex d q j → j ≢ place → index_of (root_of q ∷ []) (state_at d j) ≡ None
  root_only j jx ne =
      elim (index_of (root_of q ∷ []) (state_at d j)) as (λ o. index_of (root_of q ∷ []) (state_at d j) ≡ o → o ≡ None) [
        | Some i ↦ λ e.
            let found = position-Some (λ m. same_state (state_of m) (state_at d j)) (root_of q ∷ []) i nowhere e in
            let first : i ≡ 0 = omega (arith, found.0) in
            let is : same_state (state_of (root_of q)) (state_at d j) ≡ true = rw first at found.1 in
            absurd (ne (sym (state_apart d q listed place j start_index jx (sym start_state ∙ same_state-true (state_of (root_of q)) (state_at d j) is))))
        | None ↦ λ e. refl
      ] refl

  pub first_labels : (goal : Goal) → AreBounds d q goal.bounds.now → goal.floor ≡ 0 → (blank label : Label) → blank.rank ≡ no_rank → label.rank ≡ 0 → (keys : List HeapKey) → keys ≡ [] → IsHeap heap_key_cmp keys → (count : ℕ)
      → count ≡ (length q.hops + 1) * 1024
      → AreLabels d q (root_of q ∷ []) (CrossesBelow d q (root_of q ∷ []) (links_of d) 0) goal (set (replicate count blank) place label) keys
  first_labels goal are floor blank label none zero keys empty heap count many =
      let labels = replicate count blank in
      let within : place < length (replicate count blank) = omega (arith, at.within, listed.few, length-replicate count blank) in
      let here : label_at (set (replicate count blank) place label) place ≡ label = get_or-set_same (replicate count blank) place label _ within in
      let there : (j : ℕ) → IsStateIndex d q j → j ≢ place → label_at (set (replicate count blank) place label) j ≡ blank =
      λ j jx ne. get_or-set_other (replicate count blank) place j label _ ne ∙ get_or-replicate count j blank _ (omega (arith, many, jx.low)) in
      record {
        small = are.small;
        bounds = are.many;
        whole = rw floor refl;
        many = length-set (replicate count blank) place label ∙ length-replicate count blank ∙ many;
        each = λ j jx behind.
            elim (same_or_not j place) [
              | inl same ↦ rw (same, here) (is_settled 0 zero (ap (index_of (root_of q ∷ [])) (sym start_state) ∙ index_at (root_of q ∷ []) (root_nodes q).apart 0 nowhere (omega arith)))
              | inr ne ↦ rw (there j jx ne) (is_unreached (root_only j jx ne) none (λ w p. absurd (omega (arith, p.1))))
            ];
        ordered = heap;
        keyed = rw empty (All-nil (IsKey d q goal));
        waiting = λ j jx behind some most.
            elim (same_or_not j place) [
              | inl same ↦ absurd (let e : (label_at (set (replicate count blank) place label) j).rank ≡ 0 = rw (same, here) zero in omega arith)
              | inr ne ↦ absurd (let e = ap (λ (l : Label). l.rank) (there j jx ne) in omega (arith, e, none))
            ];
      }

-- The index of the goal, the tail-end in the leg after the last hop, is the index of a state of the
-- request. A state is a router in a leg.
pub goal_index : (d : Database) (q : Request) → AreListed d → (to legs : ℕ) → legs ≡ length q.hops + 1 → IsIndexOf d q.to to → IsStateIndex d q ((legs - 1) * 1024 + to)
goal_index d q listed to legs count end = search rules

pub goal_state : (d : Database) (q : Request) → AreListed d → (to legs : ℕ) → legs ≡ length q.hops + 1 → IsIndexOf d q.to to → state_at d ((legs - 1) * 1024 + to) ≡ end_state q
goal_state d q listed to legs count end = search rules
