-- The search continues a settled node by one step: by a link, or to the next leg at the same
-- router. After a label is offered for this step, or the step is skipped, the labels meet
-- `AreLabels` for this step too. A node is the record of a walk, and a label holds the best walk
-- found so far to a state.
use Rattle.std.proofs.Common.{◌≡◌, ◌⊎◌, inl, inr, ℕ, ◌+◌, ◌-◌, ◌*◌, ◌/◌, ◌%◌, ◌^◌, ◌<◌, ◌≤◌, ◌↔◌, IsTrue, nat_eq, Option, Some, None, List, [], ◌∷◌, ◌++◌, length, slice_get, slice_index, slice_index_or, refl, sym, ap, subst, ◌∙◌, arith, rules}
use Rattle.std.proofs.lemmas.Option.{slice_get_past}
use Rattle.cspf_model.specs.declared.link.Link.{Link}
use Rattle.cspf_model.specs.declared.request.Request.{Request}
use Rattle.cspf_model.specs.Database.{Database}
use Rattle.cspf_model.specs.Admissible.{IsUsable}
use Rattle.cspf_db.specs.Index.{links_of, links_from_index, router_list}
use Rattle.cspf_search.specs.declared.arena.Node.{Node}
use Rattle.cspf_search.specs.declared.goal.Goal.{Goal}
use Rattle.cspf_walk.specs.declared.edge.Edge.{Edge}
use Rattle.cspf_search.specs.declared.frontier.Source.{Source}
use Rattle.cspf_search.specs.declared.labels.Label.{Label}
use Rattle.cspf_graph.specs.declared.roles.Role.{Role}
use Rattle.cspf_search.specs.States.{State}
use Rattle.cspf_graph.specs.Roles.{MayEnter, MayTurn, IsStateIndex, IsRole}
use Rattle.cspf_search.specs.Arena.{walk_at, walks, walk_of, state_of, index_of, AreNodes, IsNext}
use Rattle.cspf_search.specs.Rounds.{CrossesBy, Turns, CrossesBelow}
use Rattle.cspf_walk.specs.Edges.{IsEdge}
use Rattle.cspf_search.specs.Source.{IsSource}
use Rattle.cspf_search.specs.Frontier.{state_at, nowhere, node_by, node_of, IsNodeAt, NodeMayLeave, IsOffer, AreTied, StaysAt, GoesTo, HeapKey, label_at, lift, AreLabels, CrossesUpTo}
use Rattle.cspf_graph.specs.Lists.{AreListed, IsIndexOf, router_at}
use Rattle.cspf_graph.proofs.LinkRows.{filter_short}
use Rattle.cspf_search.proofs.Ranks.{lift_small}
use Rattle.cspf_search.proofs.Backs.{turned_next, by_next}
use Rattle.cspf_search.proofs.Offered.{labels_stay, labels_offered, labels_same, lost_by_rank, tied_label, left_open, IsLost}
use Rattle.cspf_search.proofs.Expanded.{there, leg, turn_index, turn_state, turn_only, turn_passes, turn_within, turn_left, turn_right, turn_cases, link_index, link_state, link_only, link_passes, link_within, link_left, link_right, link_cases}

-- There are at most 16,384 links from a router, because the database has no more links.
pub few_rows : (d : Database) → AreListed d → (place : ℕ) → length (links_from_index d place) ≤ 16384
few_rows d listed place = omega (arith, listed.room, filter_short (λ l. nat_eq l.from (slice_index (router_list d) place)) (links_of d))

module _ (source : Source) (of : IsSource source) (labels : List Label) (keys : List HeapKey) where
  abbrev pub d : Database
  d = source.query.table.now

  abbrev pub q : Request
  q = source.query.request.now

  abbrev pub nodes : List Node
  nodes = source.nodes.now

  abbrev pub at : ℕ
  at = source.at

  abbrev pub state : ℕ
  state = source.state

  abbrev pub goal : Goal
  goal = source.goal

  are : AreNodes nodes
  are = of.arena

  listed : AreListed d
  listed = of.query.listed

  is : IsNodeAt d q nodes at state
  is = of.node

  open_leg : goal.floor ≤ state
  open_leg = of.behind

  -- Lemmas on the label of a walk that continues the source by a link, or by the step to the next
  -- leg if no link is given. The source is the settled node whose walk the search continues. A node
  -- is the record of a walk, and a label holds the best walk found so far to a state.
  module _ (label : Label) (by : Option Link) (parent : label.parent ≡ at) (place : label.place ≡ state % 1024)
      (here : slice_get (links_from_index d (state % 1024)) label.row ≡ by) (next : IsNext nodes (node_by at (slice_index_or nodes at nowhere) by))
      (rank : label.rank ≡ (node_by at (slice_index_or nodes at nowhere) by).rank) where
    label_node : node_of d nodes label ≡ node_by at (slice_index_or nodes at nowhere) by
    label_node = rw (parent, place) (ap (node_by at (slice_index_or nodes at nowhere)) here)

    label_offer : IsOffer d nodes label
    label_offer = search rules

    label_rank : label.rank ≡ (node_of d nodes label).rank
    label_rank = rank ∙ ap (λ (n : Node). n.rank) (sym label_node)

    label_tied : (P : List Link → State → Type 0) → AreLabels d q nodes P goal labels keys → (i : ℕ) → IsStateIndex d q i → goal.floor ≤ i → label.rank ≡ (label_at labels i).rank
        → AreTied d nodes (label_at labels i) label
    label_tied P before i index low tie =
        tied_label d nodes are P (label_at labels goal.at).rank (lift goal i) (state_at d i) (label_at labels i) label (before.each i index low) label_offer label_rank tie

    label_taken : (P Q R : List Link → State → Type 0) → ((w : List Link) (t : State) → P w t → R w t) → ((w : List Link) (t : State) → Q w t → R w t)
        → ((w : List Link) (t : State) → R w t → P w t ⊎ Q w t) → AreLabels d q nodes P goal labels keys → (i : ℕ) → IsStateIndex d q i → goal.floor ≤ i → (x : List Link)
        → ((w : List Link) (t : State) → Q w t → (t ≡ state_at d i) × (w ≡ x)) → state_of (node_by at (slice_index_or nodes at nowhere) by) ≡ state_at d i
        → walk_of nodes (node_by at (slice_index_or nodes at nowhere) by) ≡ x → label.rank ≤ (label_at labels i).rank → (index_of nodes (state_at d i) ≡ None → Q x (state_at d i))
        → (key : ℕ) (new : List Label) (new_keys : List HeapKey) → key ≡ label.rank + lift goal i
        → StaysAt d nodes i label labels new keys new_keys ⊎ GoesTo d nodes i label key labels new keys new_keys → AreLabels d q nodes R goal new new_keys
    label_taken P Q R from_left from_right cases before i index low x only state_is walk le passes key new new_keys is_key choice =
        let left = left_open d nodes P (label_at labels goal.at).rank (lift goal i) (state_at d i) (label_at labels i) (before.each i index low) (omega (arith, le, rank)) in
        labels_offered d q nodes are listed P Q R from_left from_right cases goal labels keys before i index low x only label key new new_keys is_key label_offer label_rank
        (ap state_of label_node ∙ state_is) (ap (walk_of nodes) label_node ∙ walk) le (passes left) choice

  module _ (before : AreLabels d q nodes (CrossesBelow d q nodes (links_of d) at) goal labels keys) where
    -- If a route may not go on to the next leg at the source's router, the labels also meet
    -- `AreLabels` for the step to the next leg, and no label needs to be offered for it. The source
    -- is the settled node whose walk the search continues. A node is the record of a walk, and a
    -- label holds the best walk found so far to a state.
    pub turn_off : (state / 1024 < length q.hops → MayTurn d q (state / 1024 + 1) (slice_index (router_list d) (state % 1024)) → ⊥)
        → AreLabels d q nodes (CrossesUpTo d q nodes at (state % 1024) 0) goal labels keys
    turn_off never =
        labels_same d q nodes (CrossesBelow d q nodes (links_of d) at) (CrossesUpTo d q nodes at (state % 1024) 0) (turn_left d q nodes at state is)
        (λ w t x. elim (turn_cases d q nodes at state is w t x) [ inl p ↦ p | inr turn ↦ let has = turn_within d q nodes at state is w t turn in absurd (never has.0 has.1) ])
        goal labels keys before

    turned : IsNext nodes (node_by at (slice_index_or nodes at nowhere) None)
    turned = turned_next d q nodes are at is.within (slice_index_or nodes at nowhere) (there d q nodes at state is)

    pub turn_late : state / 1024 < length q.hops
        → ((label_at labels (state + 1024)).rank < (slice_index_or nodes at nowhere).rank) ⊎ ((label_at labels goal.at).rank < (slice_index_or nodes at nowhere).rank + lift goal (state + 1024))
        → AreLabels d q nodes (CrossesUpTo d q nodes at (state % 1024) 0) goal labels keys
    turn_late h late =
        labels_stay d q nodes are listed (CrossesBelow d q nodes (links_of d) at) (Turns d q nodes at) (CrossesUpTo d q nodes at (state % 1024) 0)
        (turn_left d q nodes at state is) (turn_right d q nodes at state is) (turn_cases d q nodes at state is) goal labels keys before (state + 1024)
        (turn_index d q nodes at state is h) (omega (arith, open_leg)) (walk_at (walks nodes) at) (turn_only d q nodes at state is)
        (λ _. subst (IsLost d nodes (CrossesBelow d q nodes (links_of d) at) (label_at labels goal.at).rank (lift goal (state + 1024)) (state_at d (state + 1024)) (label_at labels (state + 1024)))
        (sym (are.grown at nowhere is.within))
        (lost_by_rank d nodes are (CrossesBelow d q nodes (links_of d) at) (label_at labels goal.at).rank (lift goal (state + 1024)) (state_at d (state + 1024)) (label_at labels (state + 1024))
        (node_by at (slice_index_or nodes at nowhere) None) turned (lift_small goal (state + 1024) (before.small (state + 1024))) late))

    module _ (label : Label) (parent : label.parent ≡ at) (place : label.place ≡ state % 1024) (row : label.row ≡ 65535)
        (rank : label.rank ≡ (slice_index_or nodes at nowhere).rank) where
      past : slice_get (links_from_index d (state % 1024)) label.row ≡ None
      past = rw row (slice_get_past (links_from_index d (state % 1024)) 65535 (omega (arith, few_rows d listed (state % 1024))))

      pub turn_offer : IsOffer d nodes label
      turn_offer = label_offer label None parent place past turned rank

      pub turn_tied : state / 1024 < length q.hops → label.rank ≡ (label_at labels (state + 1024)).rank → AreTied d nodes (label_at labels (state + 1024)) label
      turn_tied h tie =
          label_tied label None parent place past turned rank (CrossesBelow d q nodes (links_of d) at) before (state + 1024) (turn_index d q nodes at state is h) (omega (arith, open_leg)) tie

      pub turn_taken : state / 1024 < length q.hops → MayTurn d q (state / 1024 + 1) (slice_index (router_list d) (state % 1024))
          → label.rank ≤ (label_at labels (state + 1024)).rank → (key : ℕ) (new : List Label) (new_keys : List HeapKey) → key ≡ label.rank + lift goal (state + 1024)
          → StaysAt d nodes (state + 1024) label labels new keys new_keys ⊎ GoesTo d nodes (state + 1024) label key labels new keys new_keys
          → AreLabels d q nodes (CrossesUpTo d q nodes at (state % 1024) 0) goal new new_keys
      turn_taken h target le key new new_keys is_key choice =
          label_taken label None parent place past turned rank (CrossesBelow d q nodes (links_of d) at) (Turns d q nodes at) (CrossesUpTo d q nodes at (state % 1024) 0)
          (turn_left d q nodes at state is) (turn_right d q nodes at state is) (turn_cases d q nodes at state is) before (state + 1024) (turn_index d q nodes at state is h) (omega (arith, open_leg))
          (walk_at (walks nodes) at) (turn_only d q nodes at state is) (turn_state d q nodes at state is) (sym (are.grown at nowhere is.within)) le (turn_passes d q nodes at state is h target) key new new_keys is_key choice

  module _ (edge : Edge) (small : edge.link.now.metric < 2 ^ 32) (is_edge : IsEdge d (state % 1024) edge)
      (before : AreLabels d q nodes (CrossesUpTo d q nodes at (state % 1024) edge.row) goal labels keys) where
    abbrev pub row : ℕ
    row = edge.row

    abbrev pub l : Link
    l = edge.link.now

    abbrev pub end : ℕ
    end = edge.end

    here : slice_get (links_from_index d (state % 1024)) row ≡ Some l
    here = is_edge.row

    ends : IsIndexOf d l.to end
    ends = is_edge.end

    along : IsNext nodes (node_by at (slice_index_or nodes at nowhere) (Some l))
    along = by_next d q nodes are at is.within (slice_index_or nodes at nowhere) (there d q nodes at state is) l small

    -- The role of the state (a router in a leg) at the link's end says whether a route may enter
    -- that router in the leg.
    pub link_told : (role : Role) → IsRole d q ((state - state % 1024 + end) / 1024 + 1) (router_at d ((state - state % 1024 + end) % 1024)) role → IsTrue role.enter ↔ MayEnter d q (state / 1024 + 1) l.to
    link_told role told =
        let legs = leg d q nodes at state is in
        let same : record { leg = state / 1024 + 1; router = l.to } ≡ state_at d (state - state % 1024 + end) =
        (λ k. record { leg = sym legs k; router = l.to }) ∙ link_state d q nodes at state is row l here end ends listed.few in
        subst (λ (s : State). IsTrue role.enter ↔ MayEnter d q s.leg s.router) (sym same) told.enter

    -- If a route may not use a link from the source's router, the labels also meet `AreLabels` for
    -- the walks over this link, and no label needs to be offered for them. A label holds the best
    -- walk found so far to a state.
    pub link_off : (IsUsable d q l → MayEnter d q (state / 1024 + 1) l.to → ⊥) → AreLabels d q nodes (CrossesUpTo d q nodes at (state % 1024) (row + 1)) goal labels keys
    link_off never =
        labels_same d q nodes (CrossesUpTo d q nodes at (state % 1024) row) (CrossesUpTo d q nodes at (state % 1024) (row + 1))
        (link_left d q nodes at state is row l here end ends listed.few)
        (λ w t x.
        elim (link_cases d q nodes at state is row l here end ends listed.few w t x) [
          | inl p ↦ p
          | inr by ↦ let has = link_within d q nodes at state is row l here end ends listed.few w t by in absurd (never has.0 has.1)
        ])
        goal labels keys before

    pub link_late : ((label_at labels (state - state % 1024 + end)).rank < (slice_index_or nodes at nowhere).rank + l.metric * 16384 + 1)
        ⊎ ((label_at labels goal.at).rank < (slice_index_or nodes at nowhere).rank + l.metric * 16384 + 1 + lift goal (state - state % 1024 + end))
        → AreLabels d q nodes (CrossesUpTo d q nodes at (state % 1024) (row + 1)) goal labels keys
    link_late late =
        let n : Node = node_by at (slice_index_or nodes at nowhere) (Some l) in
        let rank : n.rank ≡ (slice_index_or nodes at nowhere).rank + l.metric * 16384 + 1 = omega arith in
        let behind : ((label_at labels (state - state % 1024 + end)).rank < n.rank) ⊎ ((label_at labels goal.at).rank < n.rank + lift goal (state - state % 1024 + end)) =
        elim late [ inl a ↦ inl (omega (arith, a, rank)) | inr b ↦ inr (omega (arith, b, rank)) ] in
        labels_stay d q nodes are listed (CrossesUpTo d q nodes at (state % 1024) row) (CrossesBy d q nodes at l) (CrossesUpTo d q nodes at (state % 1024) (row + 1))
        (link_left d q nodes at state is row l here end ends listed.few) (link_right d q nodes at state is row l here end ends listed.few)
        (link_cases d q nodes at state is row l here end ends listed.few) goal labels keys before (state - state % 1024 + end)
        (link_index d q nodes at state is row l here end ends listed.few) (omega (arith, open_leg, before.whole)) (walk_at (walks nodes) at ++ (l ∷ [])) (link_only d q nodes at state is row l here end ends listed.few)
        (λ _. lost_by_rank d nodes are (CrossesUpTo d q nodes at (state % 1024) row) (label_at labels goal.at).rank (lift goal (state - state % 1024 + end)) (state_at d (state - state % 1024 + end))
        (label_at labels (state - state % 1024 + end)) n along (lift_small goal (state - state % 1024 + end) (before.small (state - state % 1024 + end))) behind)

    module _ (label : Label) (parent : label.parent ≡ at) (place : label.place ≡ state % 1024) (at_row : label.row ≡ row)
        (rank : label.rank ≡ (slice_index_or nodes at nowhere).rank + l.metric * 16384 + 1) where
      there_is : slice_get (links_from_index d (state % 1024)) label.row ≡ Some l
      there_is = rw at_row here

      link_rank : label.rank ≡ (node_by at (slice_index_or nodes at nowhere) (Some l)).rank
      link_rank = omega (arith, rank)

      pub link_offer : IsOffer d nodes label
      link_offer = label_offer label (Some l) parent place there_is along link_rank

      pub link_tied : label.rank ≡ (label_at labels (state - state % 1024 + end)).rank → AreTied d nodes (label_at labels (state - state % 1024 + end)) label
      link_tied tie = search rules

      pub link_taken : IsUsable d q l → NodeMayLeave d nodes at state → MayEnter d q (state / 1024 + 1) l.to → label.rank ≤ (label_at labels (state - state % 1024 + end)).rank
          → (key : ℕ) (new : List Label) (new_keys : List HeapKey) → key ≡ label.rank + lift goal (state - state % 1024 + end)
          → StaysAt d nodes (state - state % 1024 + end) label labels new keys new_keys ⊎ GoesTo d nodes (state - state % 1024 + end) label key labels new keys new_keys
          → AreLabels d q nodes (CrossesUpTo d q nodes at (state % 1024) (row + 1)) goal new new_keys
      link_taken usable leaves enters le key new new_keys is_key choice =
          label_taken label (Some l) parent place there_is along link_rank (CrossesUpTo d q nodes at (state % 1024) row) (CrossesBy d q nodes at l) (CrossesUpTo d q nodes at (state % 1024) (row + 1))
          (link_left d q nodes at state is row l here end ends listed.few) (link_right d q nodes at state is row l here end ends listed.few)
          (link_cases d q nodes at state is row l here end ends listed.few) before (state - state % 1024 + end) (link_index d q nodes at state is row l here end ends listed.few)
          (omega (arith, open_leg, before.whole)) (walk_at (walks nodes) at ++ (l ∷ [])) (link_only d q nodes at state is row l here end ends listed.few)
          (link_state d q nodes at state is row l here end ends listed.few) refl le (link_passes d q nodes at state is row l here end ends listed.few usable leaves enters) key new new_keys is_key choice
