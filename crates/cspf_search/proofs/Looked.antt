-- A settled node (the record of a walk) leads to other nodes, by links and by the step to the next
-- leg. These lemmas say how the first of these other nodes changes when a round looks at one more
-- link or step.
use Rattle.std.proofs.Common.{◌≡◌, inl, inr, ℕ, zero, suc, ◌+◌, ◌-◌, ◌*◌, ◌/◌, ◌%◌, ◌^◌, ◌<◌, ◌≤◌, true, false, is_some, Option, Some, None, List, [], ◌∷◌, length, slice_get, slice_index, slice_index_or, take, refl, sym, ap, subst, ◌∙◌, arith, rules}
use Rattle.std.specs.Option.{IsSomeAnd}
use Rattle.std.specs.Ordering.{nat_cmp, ordering_then, is_gt}
use Rattle.std.specs.declared.cmp.Ordering.{Ordering}
use Rattle.std.proofs.lemmas.Bool.Decides.{nat_tests}
use Rattle.std.proofs.lemmas.Option.{get_or_from_slice_get, same_Some}
use Rattle.cspf_model.specs.declared.link.Link.{Link}
use Rattle.cspf_model.specs.declared.request.Request.{Request}
use Rattle.cspf_model.specs.Database.{Database}
use Rattle.cspf_model.specs.Admissible.{IsUsable}
use Rattle.cspf_model.specs.Walks.{cost_of}
use Rattle.cspf_db.specs.Index.{links_of, links_from_index, router_list}
use Rattle.cspf_search.specs.declared.arena.Node.{Node}
use Rattle.cspf_search.specs.declared.forward_star.ForwardStar.{ForwardStar}
use Rattle.cspf_search.specs.declared.rounds.Look.{Look}
use Rattle.cspf_search.specs.States.{State}
use Rattle.cspf_graph.specs.Roles.{MayEnter, MayTurn}
use Rattle.cspf_search.specs.Settled.{state_cmp}
use Rattle.cspf_search.specs.Arena.{state_of, walk_of, walk_rank, index_of, AreNodes, IsNext}
use Rattle.cspf_search.specs.Rounds.{CrossesBy, CrossesFrom, Turns, IsFirst, earlier_of}
use Rattle.cspf_search.specs.Frontier.{state_at, nowhere, node_by, IsNodeAt, NodeMayLeave}
use Rattle.cspf_graph.specs.Lists.{IsIndexOf}
use Rattle.cspf_search.specs.ForwardStars.{IsForwardStar}
use Rattle.cspf_search.specs.RoundSteps.{IsLook, LeadsToRow}
use Rattle.cspf_search.proofs.Backs.{by_next, by_first, turned_first}
use Rattle.cspf_search.proofs.Expanded.{there, leg, no_link_crosses, turn_state, turn_only, turn_passes, turn_within, link_index, link_state, link_only, link_passes, row_kept, row_new, row_cases}
use Rattle.cspf_search.proofs.Ranks.{walk_short}
use Rattle.cspf_search.proofs.Firsts.{first_both, first_same, left_first}
use Rattle.cspf_graph.proofs.LinkRows.{end_of_row}

-- An optional index for which `is_some` is `false` is `None`.
pub open_at : (o : Option ℕ) → is_some o ≡ false → o ≡ None
open_at o e = search rules

-- A list of links has an element at each index below its length.
pub some_at : (xs : List Link) (i : ℕ) → i < length xs → (x : Link) × (slice_get xs i ≡ Some x)
some_at [] i h = absurd (omega arith)
some_at (x ∷ xs) zero h = (x, refl)
some_at (x ∷ xs) (suc i) h = some_at xs i (omega arith)

-- For the link at the index `row` of a forward star, `ends` has at the same index the index of the
-- router where the link ends. A forward star has the links from one router.
pub row_end : (d : Database) (s : State) (star : ForwardStar) → IsForwardStar d s star → (row : ℕ) (l : Link) → row < length (links_from_index d (star.state % 1024))
    → slice_get (links_from_index d (star.state % 1024)) row ≡ Some l → (end : ℕ) → end ≡ slice_index star.ends.now row → IsIndexOf d l.to end
row_end d s star is row l h here end at =
    end_of_row d star.ends.now (links_from_index d (star.state % 1024)) is.within is.each row l end h
    (sym (get_or_from_slice_get (links_from_index d (star.state % 1024)) row l l here)) at

-- The node (the record of a walk) that continues the walk of the node `from` by a link. `at` is the
-- index of `from`.
abbrev pub along : ℕ → Node → Link → ℕ → Node
along at from l added = record {
  parent = at;
  by = Some l;
  leg = from.leg;
  router = l.to;
  rank = from.rank + added + 1;
}

by_rank : (a b m n : ℕ) (o p : Ordering) → a * 16384 + m + 1 < b * 16384 + n + 1 → n < 16384 → is_gt (ordering_then (ordering_then (nat_cmp a b) (ordering_then (nat_cmp m n) o)) p) ≡ false
by_rank a b m n o p less high = grind (arith, nat_tests)

-- A node whose rank is lower than the rank of a walk doesn't come after this walk in the order in
-- which walks are settled. A node is the record of a walk, and a walk's rank packs its cost and its
-- number of links into one number.
pub ranked_first : (nodes : List Node) (n : Node) → IsNext nodes n → (w : List Link) (leg : ℕ) → n.rank < walk_rank w → length w < 16384
    → is_gt (state_cmp (n.leg, walk_of nodes n) (leg, w)) ≡ false
ranked_first nodes n next w leg less short =
    by_rank (cost_of (walk_of nodes n)) (cost_of w) (length (walk_of nodes n)) (length w) (nat_cmp n.leg leg) _ (omega (arith, less, next.ranked.rank)) short

module _ (d : Database) (q : Request) (nodes : List Node) (are : AreNodes nodes) (at state : ℕ) (is : IsNodeAt d q nodes at state) where
  -- Before the round looks at any link, each walk that continues the node does so by the step to
  -- the next leg at the same router. A node is the record of a walk.

  only_turn : (w : List Link) (t : State) → CrossesFrom d q nodes (take 0 (links_from_index d (state % 1024))) at w t → Turns d q nodes at w t
  only_turn w t h1 = search rules

  -- If no walk continues the node by a link, each walk that continues the node does so by the step
  -- to the next leg at the same router. A node is the record of a walk.

  pub turn_here : (w : List Link) (t : State) → CrossesFrom d q nodes (take 0 (links_from_index d (state % 1024))) at w t → CrossesFrom d q nodes (links_of d) at w t
  turn_here w t x = inl (only_turn w t x)

  pub here_turn : (NodeMayLeave d nodes at state → ⊥) → (w : List Link) (t : State) → CrossesFrom d q nodes (links_of d) at w t
      → CrossesFrom d q nodes (take 0 (links_from_index d (state % 1024))) at w t
  here_turn never w t (inl turn) = inl turn
  here_turn never w t (inr link) = absurd (no_link_crosses d q nodes at state is never link.0 w t link.2)

  -- If there is no next leg, or a route may not go on to the next leg at the node's router, no walk
  -- continues the node by this step. A node is the record of a walk.
  pub no_turn : (state / 1024 < length q.hops → MayTurn d q (state / 1024 + 1) (slice_index (router_list d) (state % 1024)) → ⊥)
      → IsFirst nodes (CrossesFrom d q nodes (take 0 (links_from_index d (state % 1024))) at) None
  no_turn never = λ w t x. let has = turn_within d q nodes at state is w t (only_turn w t x) in never has.0 has.1

  pub turn_settled : is_some (index_of nodes (state_at d (state + 1024))) ≡ true → IsFirst nodes (CrossesFrom d q nodes (take 0 (links_from_index d (state % 1024))) at) None
  turn_settled marked = λ w t x.
      let turn = only_turn w t x in
      let same = (turn_only d q nodes at state is w t turn).0 in
      let left : index_of nodes (state_at d (state + 1024)) ≡ None = rw same at turn.still_open in
      absurd (cc)

  pub turn_kept : state / 1024 < length q.hops → MayTurn d q (state / 1024 + 1) (slice_index (router_list d) (state % 1024))
      → is_some (index_of nodes (state_at d (state + 1024))) ≡ false → (from : Node) → from ≡ slice_index_or nodes at nowhere
      → IsFirst nodes (CrossesFrom d q nodes (take 0 (links_from_index d (state % 1024))) at) (Some (node_by at from None))
  turn_kept h target marked from same =
      let left = open_at (index_of nodes (state_at d (state + 1024))) marked in
      let passes = turn_passes d q nodes at state is h target left in
      let node : passes.node ≡ slice_index_or nodes at nowhere =
      same_Some passes.node (slice_index_or nodes at nowhere) (sym passes.there ∙ there d q nodes at state is) in
      let first =
      turned_first d q nodes are at is.within (slice_index_or nodes at nowhere) (there d q nodes at state is)
      (subst (λ (n : Node). n.leg ≤ length q.hops) node passes.within) (subst (λ (n : Node). MayTurn d q n.leg n.router) node passes.target)
      (ap (index_of nodes) (turn_state d q nodes at state is) ∙ left) in
      rw same
      (first_same nodes (Turns d q nodes at) (CrossesFrom d q nodes (take 0 (links_from_index d (state % 1024))) at) (λ w t x. inl x) only_turn
      (Some (node_by at (slice_index_or nodes at nowhere) None)) first)

  -- Lemmas on the first of the nodes (records of walks) that one node leads to, by its step to the
  -- next leg or by its first links, when the round looks at one more link.

  module _ (a : Option Node) (row : ℕ) (l : Link) (here : slice_get (links_from_index d (state % 1024)) row ≡ Some l) (end : ℕ) (ends : IsIndexOf d l.to end)
      (few : length (router_list d) ≤ 1024) (before : IsFirst nodes (CrossesFrom d q nodes (take row (links_from_index d (state % 1024))) at) a) where
    link_off : ((w : List Link) (t : State) → CrossesBy d q nodes at l w t → ⊥) → IsFirst nodes (CrossesFrom d q nodes (take (row + 1) (links_from_index d (state % 1024))) at) a
    link_off never =
        first_same nodes (CrossesFrom d q nodes (take row (links_from_index d (state % 1024))) at) (CrossesFrom d q nodes (take (row + 1) (links_from_index d (state % 1024))) at)
        (row_kept d q nodes at state is row l here end ends few)
        (λ w t x. elim (row_cases d q nodes at state is row l here end ends few w t x) [ inl p ↦ p | inr by ↦ absurd (never w t by) ]) a before

    pub link_settled : is_some (index_of nodes (state_at d (state - state % 1024 + end))) ≡ true → IsFirst nodes (CrossesFrom d q nodes (take (row + 1) (links_from_index d (state % 1024))) at) a
    link_settled marked = link_off (λ w t x.
        let same = (link_only d q nodes at state is row l here end ends few w t x).0 in
        let left : index_of nodes (state_at d (state - state % 1024 + end)) ≡ None = rw same at x.still_open in
        absurd (cc))

    -- If the link isn't usable, or a route may not enter the router at its end, the link leads to
    -- no node. So the first of the nodes that the round has found so far doesn't change. A node is
    -- the record of a walk.
    pub no_link : (IsUsable d q l → MayEnter d q ((state - state % 1024 + end) / 1024 + 1) (slice_index (router_list d) ((state - state % 1024 + end) % 1024)) → ⊥)
        → IsFirst nodes (CrossesFrom d q nodes (take (row + 1) (links_from_index d (state % 1024))) at) a
    no_link never = link_off (λ w t x.
        let same = (link_only d q nodes at state is row l here end ends few w t x).0 in
        let enters : MayEnter d q t.leg t.router = rw x.state x.enters in
        never x.usable (subst (λ (s : State). MayEnter d q s.leg s.router) same enters))

    pub link_late : l.metric < 2 ^ 32 → (from : Node) → from ≡ slice_index_or nodes at nowhere → (added : ℕ) → added ≡ l.metric * 16384
        → IsSomeAnd a (λ kept. kept.rank < from.rank + added + 1) → IsFirst nodes (CrossesFrom d q nodes (take (row + 1) (links_from_index d (state % 1024))) at) a
    link_late small from same added is_added late =
        let next = by_next d q nodes are at is.within (slice_index_or nodes at nowhere) (there d q nodes at state is) l small in
        elim a as (λ (b : Option Node). IsFirst nodes (CrossesFrom d q nodes (take row (links_from_index d (state % 1024))) at) b → IsSomeAnd b (λ kept. kept.rank < from.rank + added + 1)
        → IsFirst nodes (CrossesFrom d q nodes (take (row + 1) (links_from_index d (state % 1024))) at) b) [
          | None ↦ λ first ranks. absurd ranks
          | Some kept ↦ λ first ranks.
              left_first nodes (CrossesFrom d q nodes (take row (links_from_index d (state % 1024))) at) (CrossesBy d q nodes at l) (CrossesFrom d q nodes (take (row + 1) (links_from_index d (state % 1024))) at)
              (row_kept d q nodes at state is row l here end ends few) (row_new d q nodes at state is row l here end ends few)
              (row_cases d q nodes at state is row l here end ends few) kept first
              (λ w t x.
              let walk = (link_only d q nodes at state is row l here end ends few w t x).1 in
              let rank : from.rank + added + 1 ≡ walk_rank w = (λ i. (same i).rank + is_added i + 1) ∙ next.ranked.rank ∙ ap walk_rank (sym walk) in
              ranked_first nodes kept first.next w t.leg (omega (arith, ranks, rank)) (subst (λ v. length v < 16384) (sym walk) (walk_short nodes are _ next)))
        ] before late

    pub link_kept : l.metric < 2 ^ 32 → index_of nodes (state_at d (state - state % 1024 + end)) ≡ None → IsUsable d q l
        → NodeMayLeave d nodes at state → MayEnter d q ((state - state % 1024 + end) / 1024 + 1) (slice_index (router_list d) ((state - state % 1024 + end) % 1024)) → (from : Node)
        → from ≡ slice_index_or nodes at nowhere → (added : ℕ) → added ≡ l.metric * 16384
        → IsFirst nodes (CrossesFrom d q nodes (take (row + 1) (links_from_index d (state % 1024))) at) (earlier_of nodes a (Some (along at from l added)))
    link_kept small left usable leaves enters from same added is_added =
        let to = link_state d q nodes at state is row l here end ends few in
        let there_enters = subst (λ (s : State). MayEnter d q s.leg s.router) (sym to) enters in
        let passes = link_passes d q nodes at state is row l here end ends few usable leaves (rw (leg d q nodes at state is) at there_enters) left in
        let node : passes.node ≡ slice_index_or nodes at nowhere =
        same_Some passes.node (slice_index_or nodes at nowhere) (sym passes.there ∙ there d q nodes at state is) in
        let first =
        by_first d q nodes are at is.within (slice_index_or nodes at nowhere) (there d q nodes at state is) l small
        (passes.runs ∙ ap (λ (n : Node). n.router) node) usable passes.leaves there_enters (ap (index_of nodes) to ∙ left) in
        rw (same, is_added)
        (first_both nodes (CrossesFrom d q nodes (take row (links_from_index d (state % 1024))) at) (CrossesBy d q nodes at l) (CrossesFrom d q nodes (take (row + 1) (links_from_index d (state % 1024))) at)
        (row_kept d q nodes at state is row l here end ends few) (row_new d q nodes at state is row l here end ends few)
        (row_cases d q nodes at state is row l here end ends few) a (Some (node_by at (slice_index_or nodes at nowhere) (Some l))) before first)

-- Lemmas on the link at the index `row` of the forward star (the links from a settled node's
-- router), and on the router at its end.
module _ (look : Look) (is : IsLook look) (row : ℕ) (within : row < length (links_from_index look.query.table.now (look.star.state % 1024))) (end : ℕ)
    (at : end ≡ slice_index look.star.ends.now row) where
  pub row_link : (l : Link) × (slice_get (links_from_index look.query.table.now (look.star.state % 1024)) row ≡ Some l)
  row_link = some_at (links_from_index look.query.table.now (look.star.state % 1024)) row within

  pub row_is_end : IsIndexOf look.query.table.now row_link.0.to end
  row_is_end = row_end look.query.table.now (state_of (slice_index_or look.nodes.now look.at nowhere)) look.star is.star row row_link.0 within row_link.1 end at

  -- The mark of the state at the link's end says whether a node has this state. A state is a router
  -- in a leg, and a node is the record of a walk.
  row_mark : slice_index_or look.marks.now (look.star.state - look.star.state % 1024 + end) false
      ≡ is_some (index_of look.nodes.now (state_at look.query.table.now (look.star.state - look.star.state % 1024 + end)))
  row_mark =
      is.marks.each (look.star.state - look.star.state % 1024 + end) false
      (link_index look.query.table.now look.query.request.now look.nodes.now look.at look.star.state is.from row row_link.0 row_link.1 end row_is_end is.query.listed.few)

  -- If the state at the link's end is marked as settled, the link leads to no new node. So the
  -- first of the nodes that the round has found so far doesn't change. A state is a router in a
  -- leg, and a node is the record of a walk.
  pub row_settled : slice_index_or look.marks.now (look.star.state - look.star.state % 1024 + end) false ≡ true → (a : Option Node)
      → IsFirst look.nodes.now (LeadsToRow look row) a → IsFirst look.nodes.now (LeadsToRow look (row + 1)) a
  row_settled marked a before =
      link_settled look.query.table.now look.query.request.now look.nodes.now is.arena look.at look.star.state is.from a row row_link.0 row_link.1 end row_is_end is.query.listed.few before
      (sym row_mark ∙ marked)

  -- If the state at the link's end isn't marked as settled, no node has this state. A state is a
  -- router in a leg, and a node is the record of a walk.
  pub row_left : slice_index_or look.marks.now (look.star.state - look.star.state % 1024 + end) false ≡ false
      → index_of look.nodes.now (state_at look.query.table.now (look.star.state - look.star.state % 1024 + end)) ≡ None
  row_left unmarked = open_at _ (sym row_mark ∙ unmarked)
