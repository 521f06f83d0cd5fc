-- The walks that continue a node while labels are offered for it: by the step to the next leg, and
-- by each link from the node's router. A node is the record of a walk, and a label holds the best
-- walk found so far to a state.
use Rattle.std.proofs.Common.{◌≡◌, ◌⊎◌, inl, inr, ℕ, ◌+◌, ◌-◌, ◌/◌, ◌%◌, ◌<◌, ◌≤◌, not, Some, None, List, [], ◌∷◌, ◌++◌, length, take, slice_get, slice_index, slice_index_or, refl, sym, ap, subst, ◌∙◌, arith, rules}
use Rattle.std.specs.List.{Contains}
use Rattle.std.proofs.lemmas.Bool.{cases_lt}
use Rattle.std.proofs.lemmas.List.{take_all}
use Rattle.std.proofs.lemmas.Option.{slice_get-get_or, slice_get_within, get_or_from_slice_get, same_Some}
use Rattle.cspf_model.specs.declared.link.Link.{Link}
use Rattle.cspf_model.specs.declared.request.Request.{Request}
use Rattle.cspf_model.specs.Database.{Database}
use Rattle.cspf_model.specs.Admissible.{IsUsable}
use Rattle.cspf_db.specs.Index.{links_of, links_from_index, router_list}
use Rattle.cspf_search.specs.declared.arena.Node.{Node}
use Rattle.cspf_search.specs.States.{State}
use Rattle.cspf_graph.specs.Roles.{MayEnter, MayTurn, IsStateIndex}
use Rattle.cspf_search.specs.Arena.{walk_at, walks, index_of}
use Rattle.cspf_search.specs.Rounds.{CrossesBy, Turns, CrossesFrom, CrossesBelow}
use Rattle.cspf_search.specs.Frontier.{state_at, nowhere, IsNodeAt, NodeMayLeave, CrossesUpTo}
use Rattle.cspf_graph.specs.Lists.{IsIndexOf}
use Rattle.cspf_graph.proofs.LinkRows.{kept_from, kept_of, runs_from}
use Rattle.cspf_search.proofs.Scans.{kept_link, new_link, either_link}

module _ (d : Database) (q : Request) (nodes : List Node) (at state : ℕ) (is : IsNodeAt d q nodes at state) where
  abbrev from : Node
  from = slice_index_or nodes at nowhere

  pub there : slice_get nodes at ≡ Some (slice_index_or nodes at nowhere)
  there = slice_get-get_or nodes at nowhere is.within

  pub leg : (slice_index_or nodes at nowhere).leg ≡ state / 1024 + 1
  leg = ap (λ (s : State). s.leg) is.there

  router : (slice_index_or nodes at nowhere).router ≡ slice_index (router_list d) (state % 1024)
  router = ap (λ (s : State). s.router) is.there

  -- Lemmas on the walk that continues a node by the step to the next leg, and on the walks of
  -- `CrossesUpTo` with `row` 0, which use no link from the node's router. A node is the record of a
  -- walk.

  pub turn_index : state / 1024 < length q.hops → IsStateIndex d q (state + 1024)
  turn_index h = search rules

  pub turn_state : record { leg = (slice_index_or nodes at nowhere).leg + 1; router = (slice_index_or nodes at nowhere).router } ≡ state_at d (state + 1024)
  turn_state = search rules

  pub turn_only : (w : List Link) (t : State) → Turns d q nodes at w t → (t ≡ state_at d (state + 1024)) × (w ≡ walk_at (walks nodes) at)
  turn_only w t x =
      let same : x.node ≡ slice_index_or nodes at nowhere = same_Some x.node (slice_index_or nodes at nowhere) (sym x.there ∙ there) in
      (x.state ∙ ap (λ (n : Node). record { leg = n.leg + 1; router = n.router }) same ∙ turn_state, x.walk)

  pub turn_passes : state / 1024 < length q.hops → MayTurn d q (state / 1024 + 1) (slice_index (router_list d) (state % 1024))
      → index_of nodes (state_at d (state + 1024)) ≡ None → Turns d q nodes at (walk_at (walks nodes) at) (state_at d (state + 1024))
  turn_passes h target left = record {
    node = slice_index_or nodes at nowhere;
    there = there;
    within = omega (arith, leg);
    target = rw (leg, router) target;
    walk = refl;
    state = sym turn_state;
    still_open = left;
  }

  pub turn_within : (w : List Link) (t : State) → Turns d q nodes at w t
      → (state / 1024 < length q.hops) × MayTurn d q (state / 1024 + 1) (slice_index (router_list d) (state % 1024))
  turn_within w t x =
      let same : x.node ≡ slice_index_or nodes at nowhere = same_Some x.node (slice_index_or nodes at nowhere) (sym x.there ∙ there) in
      let legs = ap (λ (n : Node). n.leg) same in
      let routers = ap (λ (n : Node). n.router) same in
      (omega (arith, leg, legs, x.within), rw (legs ∙ leg, routers ∙ router) at x.target)

  pub no_row : (row : ℕ) (w : List Link) (t : State) → ((l : Link) × Contains (take 0 (links_from_index d (state % 1024))) l × CrossesBy d q nodes at l w t) → ⊥
  no_row row w t x = let low = x.1.1 in omega arith

  pub turn_left : (w : List Link) (t : State) → CrossesBelow d q nodes (links_of d) at w t → CrossesUpTo d q nodes at (state % 1024) 0 w t
  turn_left w t x = inl x

  pub turn_right : (w : List Link) (t : State) → Turns d q nodes at w t → CrossesUpTo d q nodes at (state % 1024) 0 w t
  turn_right w t x = inr (inl x)

  pub turn_cases : (w : List Link) (t : State) → CrossesUpTo d q nodes at (state % 1024) 0 w t → CrossesBelow d q nodes (links_of d) at w t ⊎ Turns d q nodes at w t
  turn_cases w t h1 = search rules

  -- Lemmas on the walks that continue a node by the link `l`, which has the index `row` among the
  -- links from the node's router. A node is the record of a walk.

  module _ (row : ℕ) (l : Link) (listed : slice_get (links_from_index d (state % 1024)) row ≡ Some l) (end : ℕ) (ends : IsIndexOf d l.to end) (few : length (router_list d) ≤ 1024) where
    pub link_index : IsStateIndex d q (state - state % 1024 + end)
    link_index = search rules

    pub link_state : record { leg = (slice_index_or nodes at nowhere).leg; router = l.to } ≡ state_at d (state - state % 1024 + end)
    link_state = search rules

    pub link_only : (w : List Link) (t : State) → CrossesBy d q nodes at l w t
        → (t ≡ state_at d (state - state % 1024 + end)) × (w ≡ walk_at (walks nodes) at ++ (l ∷ []))
    link_only w t x =
        let same : x.node ≡ slice_index_or nodes at nowhere = same_Some x.node (slice_index_or nodes at nowhere) (sym x.there ∙ there) in
        (x.state ∙ ap (λ (n : Node). record { leg = n.leg; router = l.to }) same ∙ link_state, x.walk)

    pub link_passes : IsUsable d q l → NodeMayLeave d nodes at state → MayEnter d q (state / 1024 + 1) l.to → index_of nodes (state_at d (state - state % 1024 + end)) ≡ None
        → CrossesBy d q nodes at l (walk_at (walks nodes) at ++ (l ∷ [])) (state_at d (state - state % 1024 + end))
    link_passes usable leaves enters left = record {
      node = slice_index_or nodes at nowhere;
      there = there;
      runs = runs_from d (state % 1024) row l listed ∙ sym router;
      usable = usable;
      leaves = rw (runs_from d (state % 1024) row l listed) leaves;
      enters = rw leg enters;
      walk = refl;
      state = sym link_state;
      still_open = left;
    }

    pub link_within : (w : List Link) (t : State) → CrossesBy d q nodes at l w t → IsUsable d q l × MayEnter d q (state / 1024 + 1) l.to
    link_within w t x =
        let same : x.node ≡ slice_index_or nodes at nowhere = same_Some x.node (slice_index_or nodes at nowhere) (sym x.there ∙ there) in
        let legs = ap (λ (n : Node). n.leg) same in
        (x.usable, rw (legs ∙ leg) at x.enters)

    row_within : row < length (links_from_index d (state % 1024))
    row_within = slice_get_within (links_from_index d (state % 1024)) row l listed

    row_is : l ≡ slice_index_or (links_from_index d (state % 1024)) row l
    row_is = sym (get_or_from_slice_get (links_from_index d (state % 1024)) row l l listed)

    -- Lemmas on walks that continue the node by one of its first `row` links, by the next link, or
    -- by one of its first `row + 1` links. A node is the record of a walk.

    pub row_kept : (w : List Link) (t : State) → CrossesFrom d q nodes (take row (links_from_index d (state % 1024))) at w t
        → CrossesFrom d q nodes (take (row + 1) (links_from_index d (state % 1024))) at w t
    row_kept = kept_link d q nodes (links_from_index d (state % 1024)) at row row_within l row_is

    pub row_new : (w : List Link) (t : State) → CrossesBy d q nodes at l w t → CrossesFrom d q nodes (take (row + 1) (links_from_index d (state % 1024))) at w t
    row_new = new_link d q nodes (links_from_index d (state % 1024)) at row row_within l row_is

    pub row_cases : (w : List Link) (t : State) → CrossesFrom d q nodes (take (row + 1) (links_from_index d (state % 1024))) at w t
        → CrossesFrom d q nodes (take row (links_from_index d (state % 1024))) at w t ⊎ CrossesBy d q nodes at l w t
    row_cases = either_link d q nodes (links_from_index d (state % 1024)) at row row_within l row_is

    pub link_left : (w : List Link) (t : State) → CrossesUpTo d q nodes at (state % 1024) row w t → CrossesUpTo d q nodes at (state % 1024) (row + 1) w t
    link_left w t h1 = search (rules, row_kept)

    pub link_right : (w : List Link) (t : State) → CrossesBy d q nodes at l w t → CrossesUpTo d q nodes at (state % 1024) (row + 1) w t
    link_right w t x = inr (row_new w t x)

    pub link_cases : (w : List Link) (t : State) → CrossesUpTo d q nodes at (state % 1024) (row + 1) w t
        → CrossesUpTo d q nodes at (state % 1024) row w t ⊎ CrossesBy d q nodes at l w t
    link_cases w t h1 = search (rules, row_cases)

  -- Lemmas for a node whose walk may not leave its router. No label is then offered for a link from
  -- this router. A label holds the best walk found so far to a state.

  -- If the node's walk may not leave its router, no walk continues the node (the record of a walk)
  -- by a link.
  pub no_link_crosses : (NodeMayLeave d nodes at state → ⊥) → (l : Link) (w : List Link) (t : State) → CrossesBy d q nodes at l w t → ⊥
  no_link_crosses never l w t x =
      let same : x.node ≡ slice_index_or nodes at nowhere = same_Some x.node (slice_index_or nodes at nowhere) (sym x.there ∙ there) in
      let runs : l.from ≡ slice_index (router_list d) (state % 1024) = x.runs ∙ ap (λ (n : Node). n.router) same ∙ router in
      never (rw runs at x.leaves)

  -- Each walk of `CrossesUpTo` with `row` 0 continues a node at an index up to `at`. If it
  -- continues the node at `at`, it does so by the step to the next leg at the same router. A node
  -- is the record of a walk.
  pub turn_below : (w : List Link) (t : State) → CrossesUpTo d q nodes at (state % 1024) 0 w t → CrossesBelow d q nodes (links_of d) (at + 1) w t
  turn_below w t (inl x) = (x.0, omega (arith, x.1), x.2)
  turn_below w t (inr (inl turn)) = (at, omega arith, inl turn)
  turn_below w t (inr (inr x)) = absurd (no_row 0 w t x)

  -- If the walk of the node at `at` may not leave its router, no link continues the node at `at`.
  -- So each walk that continues a node at an index up to `at` is a walk of `CrossesUpTo` with `row`
  -- 0. A node is the record of a walk.
  pub below_turn : (NodeMayLeave d nodes at state → ⊥) → (w : List Link) (t : State) → CrossesBelow d q nodes (links_of d) (at + 1) w t
      → CrossesUpTo d q nodes at (state % 1024) 0 w t
  below_turn never w t x =
      elim (cases_lt x.0 at) [
        | inl lt ↦ inl (x.0, lt, x.2)
        | inr ge ↦
            let e : x.0 ≡ at = omega (arith, x.1) in
            elim (subst (λ k. CrossesFrom d q nodes (links_of d) k w t) e x.2) [
              | inl turn ↦ inr (inl turn)
              | inr link ↦ absurd (no_link_crosses never link.0 w t link.2)
            ]
      ]

  -- Lemmas on the walks that continue the node by the step to the next leg at the same router, or
  -- by any link from this router. A node is the record of a walk.

  pub here_from : (w : List Link) (t : State) → CrossesFrom d q nodes (take (length (links_from_index d (state % 1024))) (links_from_index d (state % 1024))) at w t
      → CrossesFrom d q nodes (links_of d) at w t
  here_from w t (inl turn) = inl turn
  here_from w t (inr x) =
      let all = take_all (length (links_from_index d (state % 1024))) (links_from_index d (state % 1024)) (omega arith) in
      inr (x.0, kept_of d (state % 1024) x.0 (rw all at x.1), x.2)

  pub all_below : (w : List Link) (t : State) → CrossesUpTo d q nodes at (state % 1024) (length (links_from_index d (state % 1024))) w t
      → CrossesBelow d q nodes (links_of d) (at + 1) w t
  all_below w t (inl x) = (x.0, omega (arith, x.1), x.2)
  all_below w t (inr (inl turn)) = (at, omega arith, inl turn)
  all_below w t (inr (inr x)) = (at, omega arith, here_from w t (inr x))

  pub from_here : (w : List Link) (t : State) → CrossesFrom d q nodes (links_of d) at w t
      → CrossesFrom d q nodes (take (length (links_from_index d (state % 1024))) (links_from_index d (state % 1024))) at w t
  from_here w t (inl turn) = inl turn
  from_here w t (inr x) =
      let all = take_all (length (links_from_index d (state % 1024))) (links_from_index d (state % 1024)) (omega arith) in
      let same : x.2.node ≡ slice_index_or nodes at nowhere = same_Some x.2.node (slice_index_or nodes at nowhere) (sym x.2.there ∙ there) in
      let runs : x.0.from ≡ slice_index (router_list d) (state % 1024) = x.2.runs ∙ ap (λ (n : Node). n.router) same ∙ router in
      inr (x.0, rw all (kept_from d (state % 1024) x.0 x.1 runs), x.2)

  pub below_all : (w : List Link) (t : State) → CrossesBelow d q nodes (links_of d) (at + 1) w t
      → CrossesUpTo d q nodes at (state % 1024) (length (links_from_index d (state % 1024))) w t
  below_all w t x =
      elim (cases_lt x.0 at) [
        | inl lt ↦ inl (x.0, lt, x.2)
        | inr ge ↦
            let e : x.0 ≡ at = omega (arith, x.1) in
            inr (from_here w t (subst (λ k. CrossesFrom d q nodes (links_of d) k w t) e x.2))
      ]
