-- Lemmas on ranks as numbers, and on the indexes of states (routers in legs).
use Rattle.std.proofs.Common.{◌≡◌, inl, inr, ℕ, suc, ◌+◌, ◌-◌, ◌*◌, ◌/◌, ◌%◌, ◌^◌, ◌<◌, ◌≤◌, true, false, nat_eq, Option, Some, None, position, List, length, slice_index, slice_index_or, refl, sym, ap, ◌∙◌, arith, subst, rules}
use Rattle.std.proofs.lemmas.Grind.{common_steps}
use Rattle.std.specs.Ordering.{nat_cmp, ordering_then, ordering_reverse, is_gt}
use Rattle.std.specs.declared.cmp.Ordering.{Ordering}
use Rattle.std.proofs.lemmas.Cmp.{nat_list_cmp_total}
use Rattle.std.proofs.lemmas.Bool.{eq-eqb, eqb-true}
use Rattle.std.proofs.lemmas.Bool.Decides.{nat_tests}
use Rattle.std.proofs.lemmas.List.{length_push}
use Rattle.std.proofs.lemmas.List.Elements.{at_from_Contains}
use Rattle.std.proofs.lemmas.List.Quantifiers.{position-Some}
use Rattle.cspf_model.specs.declared.link.Link.{Link}
use Rattle.cspf_model.specs.declared.request.Request.{Request}
use Rattle.cspf_model.specs.Database.{Database, IsRouterOf}
use Rattle.cspf_model.specs.Walks.{cost_of, locals_of}
use Rattle.cspf_db.specs.Index.{router_list}
use Rattle.cspf_graph.proofs.RouterIndexes.{same_index}
use Rattle.cspf_search.specs.declared.arena.Node.{Node}
use Rattle.cspf_search.specs.declared.goal.Goal.{Goal}
use Rattle.cspf_search.specs.States.{State, LeadsOn}
use Rattle.cspf_graph.specs.Roles.{MayEnter, MayTurn, IsStateIndex}
use Rattle.cspf_search.specs.Settled.{IsNoLater, RanksNoLater, IsConsistent, locals_cmp, IsWithin}
use Rattle.cspf_search.specs.Arena.{walk_at, walks, walk_of, walk_rank, AreNodes, IsNext}
use Rattle.cspf_search.specs.Bounds.{bound_at, AreBounds}
use Rattle.cspf_search.specs.Rounds.{CrossesFrom}
use Rattle.cspf_search.proofs.Labelled.{position-None}
use Rattle.cspf_search.specs.Frontier.{state_at, nowhere, no_rank, lift, IsBeyond}
use Rattle.cspf_graph.specs.Lists.{AreListed}

-- Lemmas on the ranks of walks with fewer than 16,384 links. A rank is the cost times 16,384, plus
-- the number of links, plus 1.

less_rank : (a b m n : ℕ) (o : Ordering) → a * 16384 + m + 1 < b * 16384 + n + 1 → n < 16384
    → is_gt (ordering_then (nat_cmp a b) (ordering_then (nat_cmp m n) o)) ≡ false
less_rank a b m n o less high = search rules

no_less : (j k : ℕ) → j ≤ k → is_gt (nat_cmp j k) ≡ false
no_less j k h = grind (arith, nat_tests)

-- If one walk has a lower rank than another walk, it doesn't come after that walk in the order of
-- walks. A walk's rank packs its cost and its number of links into one number.
pub before_by_rank : (v w : List Link) → walk_rank v < walk_rank w → length w < 16384 → IsNoLater v w
before_by_rank v w less high = less_rank (cost_of v) (cost_of w) (length v) (length w) (locals_cmp v w) less high

pub before_by_locals : (v w : List Link) → walk_rank v ≡ walk_rank w → length v < 16384 → length w < 16384 → is_gt (locals_cmp v w) ≡ false → IsNoLater v w
before_by_locals v w tie low high first = search rules

turned : (o p : Ordering) → p ≡ ordering_reverse o → is_gt o ≡ true → is_gt p ≡ false
turned o p e g = grind (arith, common_steps)

pub locals_turned : (v w : List Link) → is_gt (locals_cmp v w) ≡ true → is_gt (locals_cmp w v) ≡ false
locals_turned v w h = turned (locals_cmp v w) (locals_cmp w v) (nat_list_cmp_total.antisymm (locals_of w) (locals_of v)) h

module _ (potential : State → ℕ) (s t : State) (v w : List Link) (high : length w < 16384) where
  pub rank_before : walk_rank v + potential s * 16384 < walk_rank w + potential t * 16384 → RanksNoLater potential s v t w
  rank_before less =
      less_rank (potential s + cost_of v) (potential t + cost_of w) (length v) (length w) (nat_cmp s.leg t.leg) (omega (arith, less)) high

  pub rank_tied : length v < 16384 → walk_rank v + potential s * 16384 ≡ walk_rank w + potential t * 16384 → s.leg ≤ t.leg → RanksNoLater potential s v t w
  rank_tied low tie legs = search rules

-- Lemmas on the ranks of nodes. A node is the record of a walk, and a walk's rank packs its cost
-- and its number of links into one number.

module _ (nodes : List Node) (are : AreNodes nodes) (n : Node) (next : IsNext nodes n) where
  pub rank_is : n.rank ≡ walk_rank (walk_of nodes n)
  rank_is = next.ranked.rank

  pub walk_short : length (walk_of nodes n) < 16384
  walk_short = omega (arith, next.ranked.few, are.most)

  pub rank_small : n.rank + 2 ^ 46 < no_rank
  rank_small = omega (arith, next.ranked.rank, next.ranked.small, next.ranked.few, are.most)

-- If two nodes have the same rank, their walks have the same number of links. A node is the record
-- of a walk, and a walk's rank packs its cost and its number of links into one number.
pub one_length : (nodes : List Node) → AreNodes nodes → (a b : Node) → IsNext nodes a → IsNext nodes b → a.rank ≡ b.rank → length (walk_of nodes a) ≡ length (walk_of nodes b)
one_length nodes are a b x y tie = search rules

-- The rank of a node is less than 2^60, so it doesn't overflow 64 bits when a link's weight is
-- added. A node is the record of a walk, and a walk's rank packs its cost and its number of links
-- into one number.
pub rank_at : (nodes : List Node) → AreNodes nodes → (at : ℕ) → at < length nodes → (slice_index_or nodes at nowhere).rank < 2 ^ 60
rank_at nodes are at within = search rules

-- A walk that continues the walk of a node by one link, or by the step to the next leg at the same
-- router, has fewer than 16,384 links. A node is the record of a walk.
pub crossing_short : (d : Database) (q : Request) (nodes : List Node) → AreNodes nodes → (links : List Link) (at : ℕ) → at < length nodes → (w : List Link) (t : State)
    → CrossesFrom d q nodes links at w t → length w < 16384
crossing_short d q nodes are links at within w t (inl turn) =
    let ranked = are.ranked at nowhere within in
    omega (arith, ap (λ (w : List Link). length w) turn.walk, ranked.few, are.most)
crossing_short d q nodes are links at within w t (inr by) =
    let ranked = are.ranked at nowhere within in
    let x = by.2 in
    omega (arith, ap (λ (w : List Link). length w) x.walk, length_push (walk_at (walks nodes) at) by.0, ranked.few, are.most)

pub beyond_lower : (cap lower ahead : ℕ) (w : List Link) → lower ≤ cap → IsBeyond cap ahead w → IsBeyond lower ahead w
beyond_lower cap lower ahead w h beyond = record { known = omega (arith, beyond.known); behind = omega (arith, beyond.behind) }

-- Lemmas on the lift of a state: how much the state's key in the heap exceeds the rank in its
-- label. A state is a router in a leg, and a label holds the best walk found so far to a state. A
-- walk's rank packs its cost and its number of links into one number.

pub lift_small : (goal : Goal) (i : ℕ) → slice_index_or goal.bounds.now i 0 < 2 ^ 32 → lift goal i < 2 ^ 46
lift_small goal i small = omega (arith, small)

-- Lemmas on the indexes of states (routers in legs).

module _ (d : Database) (q : Request) (listed : AreListed d) where
  -- Two indexes of the same state (a router in a leg) are equal.
  pub state_apart : (i j : ℕ) → IsStateIndex d q i → IsStateIndex d q j → state_at d i ≡ state_at d j → i ≡ j
  state_apart i j ix jx e = search (rules, same_index)

  -- Each router of the database has an index as a state in each leg of the request.
  pub index_for : (u : State) → IsRouterOf d u.router → 1 ≤ u.leg → u.leg ≤ length q.hops + 1 → (i : ℕ) × IsStateIndex d q i × (u ≡ state_at d i)
  index_for u known low high =
      let at = at_from_Contains (router_list d) u.router ((listed.known u.router).1 known) in
      let i : ℕ = (u.leg - 1) * 1024 + at.0 in
      let leg : u.leg ≡ i / 1024 + 1 = omega (arith, at.1, listed.few) in
      let place : i % 1024 ≡ at.0 = omega (arith, at.1, listed.few) in
      let router : u.router ≡ slice_index (router_list d) (i % 1024) = sym (ap (slice_index (router_list d)) place ∙ at.2 0) in (
        i,
        record { low = omega (arith, at.1, listed.few); place = rw place at.1 },
        (λ k. record { leg = leg k; router = router k }),
      )

-- The potential of a state (a router in a leg): the state's bound in `goal.bounds`, which is a
-- lower bound of the cost from the state to the tail-end. The potential is 0 if the state's router
-- isn't in the list of routers.
abbrev pub potential_from : Goal → ℕ → Option ℕ → ℕ
potential_from goal leg (Some place) = bound_at goal.bounds.now ((leg - 1) * 1024 + place)
potential_from goal leg None = 0

abbrev pub potential_of : Database → Goal → State → ℕ
potential_of d goal s = potential_from goal s.leg (position (λ router. nat_eq router s.router) (router_list d))

module _ (d : Database) (q : Request) (listed : AreListed d) where
  -- A search for the router at the index `place` in the list of routers finds this index.
  place_found : (place : ℕ) → place < length (router_list d) → position (λ router. nat_eq router (slice_index (router_list d) place)) (router_list d) ≡ Some place
  place_found place within =
      let r = slice_index (router_list d) place in
      elim (position (λ router. nat_eq router (slice_index (router_list d) place)) (router_list d))
      as (λ o. position (λ router. nat_eq router (slice_index (router_list d) place)) (router_list d) ≡ o → o ≡ Some place) [
        | Some at ↦ λ e.
            let found = position-Some (λ router. nat_eq router (slice_index (router_list d) place)) (router_list d) at 0 e in
            let same = eqb-true (slice_index_or (router_list d) at 0) (slice_index (router_list d) place) found.1 in
            ap Some (same_index (router_list d) listed.rising at place found.0 within same)
        | None ↦ λ e.
            let off = position-None (λ router. nat_eq router (slice_index (router_list d) place)) (router_list d) place 0 e within in
            let on = eq-eqb (slice_index_or (router_list d) place 0) (slice_index (router_list d) place) refl in
            absurd (cc)
      ] refl

  module _ (goal : Goal) (bounds : AreBounds d q goal.bounds.now) where
    -- The potential of a state (a router in a leg) is its bound, the element of `goal.bounds` at
    -- the state's index.
    pub potential_at : (i : ℕ) → IsStateIndex d q i → potential_of d goal (state_at d i) ≡ bound_at goal.bounds.now i
    potential_at i here =
        let whole : (i / 1024 + 1 - 1) * 1024 + i % 1024 ≡ i = omega arith in
        rw (place_found (i % 1024) here.place) (ap (bound_at goal.bounds.now) whole)

    pub lift_is : (i : ℕ) → IsStateIndex d q i → lift goal i ≡ potential_of d goal (state_at d i) * 16384
    lift_is i here = ap (λ n. n * 16384) (sym (potential_at i here))

    index_of_end : (leg router : ℕ) → 1 ≤ leg → leg ≤ length q.hops + 1 → IsRouterOf d router
        → (i : ℕ) × IsStateIndex d q i × (record { leg = leg; router = router } ≡ state_at d i)
    index_of_end leg router low high known = index_for d q listed (record { leg = leg; router = router }) known low high

    links_keep : (leg : ℕ) (l : Link) → 1 ≤ leg → leg ≤ length q.hops + 1 → LeadsOn d q l → MayEnter d q leg l.to
        → IsWithin (potential_of d goal (record { leg = leg; router = l.from })) (potential_of d goal (record { leg = leg; router = l.to })) l.metric
    links_keep leg l low high a enters =
        let i = index_of_end leg l.from low high (l, a.admissible.link, inl refl) in
        let j = index_of_end leg l.to low high (l, a.admissible.link, inr refl) in
        let same : i.0 / 1024 ≡ j.0 / 1024 = omega (arith, ap (λ (s : State). s.leg) i.2, ap (λ (s : State). s.leg) j.2) in
        let entered : MayEnter d q (j.0 / 1024 + 1) l.to = subst (λ k. MayEnter d q k l.to) (ap (λ (s : State). s.leg) j.2) enters in
        let up = bounds.links i.0 j.0 i.1 j.1 same l a entered (ap (λ (s : State). s.router) i.2) (ap (λ (s : State). s.router) j.2) in
        let near = ap (potential_of d goal) i.2 ∙ potential_at i.0 i.1 in
        let ahead = ap (potential_of d goal) j.2 ∙ potential_at j.0 j.1 in
        (omega (arith, up.0, near, ahead), λ way. omega (arith, up.1 (omega (arith, ahead, way)), near))

    turns_keep : (leg router : ℕ) → 1 ≤ leg → leg ≤ length q.hops → MayTurn d q leg router
        → potential_of d goal (record { leg = leg; router = router }) ≤ potential_of d goal (record { leg = suc leg; router = router })
    turns_keep leg router low high target =
        elim (position (λ r. nat_eq r router) (router_list d))
        as (λ o. position (λ r. nat_eq r router) (router_list d) ≡ o → potential_from goal leg o ≤ potential_from goal (suc leg) o) [
          | Some place ↦ λ e.
              let found = position-Some (λ r. nat_eq r router) (router_list d) place 0 e in
              let same = eqb-true (slice_index_or (router_list d) place 0) router found.1 in
              let i : ℕ = (leg - 1) * 1024 + place in
              let at_leg : i / 1024 + 1 ≡ leg = omega (arith, low, found.0, listed.few) in
              let at_place : i % 1024 ≡ place = omega (arith, found.0, listed.few) in
              let next : (suc leg - 1) * 1024 + place ≡ i + 1024 = omega (arith, low) in
              let index : IsStateIndex d q i = record { low = omega (arith, low, high, found.0, listed.few); place = rw at_place found.0 } in
              rw next (bounds.turns i index (omega (arith, at_leg, high)) (rw (at_leg, at_place, same) target))
          | None ↦ λ e. omega arith
        ] refl

    pub potential_consistent : IsConsistent d q (potential_of d goal)
    potential_consistent = record { links = links_keep; turns = turns_keep }
