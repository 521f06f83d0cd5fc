-- Each walk that the search settles is the least walk to its state (a router in a leg).
use Rattle.std.proofs.Common.{◌≡◌, ◌⊎◌, inl, inr, ℕ, ◌<◌, false, Some, None, List, [], ◌∷◌, ◌++◌, length, refl, sym, ap, subst, ◌∙◌, arith, rules}
use Rattle.std.proofs.lemmas.Grind.{common_steps}
use Rattle.std.specs.Ordering.{is_gt, ordering_reverse}
use Rattle.std.specs.declared.cmp.Ordering.TheVariants.{Less}
use Rattle.std.proofs.lemmas.Bool.{cases_lt}
use Rattle.std.proofs.lemmas.Cmp.{upto}
use Rattle.cspf_model.specs.declared.link.Link.{Link}
use Rattle.cspf_model.specs.declared.request.Request.{Request}
use Rattle.cspf_model.specs.Database.{Database}
use Rattle.cspf_model.specs.Admissible.{IsAdmissible, MayLeave}
use Rattle.cspf_model.specs.Routes.{IsRoute}
use Rattle.cspf_model.specs.Best.{IsBestRoute}
use Rattle.cspf_search.specs.declared.limits.TheConstants.{NO_WAY}
use Rattle.cspf_search.specs.States.{State, LeadsOn, IsStep, by_link, by_turn, Reaches, starts, steps, start_of, end_state}
use Rattle.cspf_graph.specs.Roles.{MayTurn}
use Rattle.cspf_search.specs.Settled.{Labels, IsNoLater, potential_cmp, RanksNoLater, IsConsistent, AreSettled, Crosses, IsClosed, IsFirstCrossing, IsStuck}
use Rattle.cspf_search.proofs.Orders.{walks_total, potentials_total, walk_cmp-push, potential_cmp-push, potential_cmp-turn, walk_from_less, rank_from_walk}
use Rattle.cspf_search.proofs.Cuts.{reached_walk, reached_leg, route_reaches, reaches_route}

-- All walks that are settled in `old` are settled in `new` too. The only other settled walk of
-- `new` is the walk `w` of the state `t` (a router in a leg).
pub record Adds (old : Labels) (t : State) (w : List Link) (new : Labels) : Type 0 where
  pub keeps : (s : State) (x : List Link) → old s ≡ Some x → new s ≡ Some x
  pub adds : (s : State) (x : List Link) → new s ≡ Some x → (old s ≡ Some x) ⊎ ((s ≡ t) × (x ≡ w))

no_later_trans : (u v w : List Link) → IsNoLater u v → IsNoLater v w → IsNoLater u w
no_later_trans u v w = upto walks_total u v w

-- In the order of walks by cost plus potential: if `a` doesn't come after `b`, and `b` precedes
-- `c`, then `a` precedes `c`.
before_less : (potential : State → ℕ) (a b c : State × List Link) → is_gt (potential_cmp potential a b) ≡ false → potential_cmp potential b c ≡ Less
    → potential_cmp potential a c ≡ Less
before_less potential a b c h less = grind (arith, common_steps, potentials_total)

-- A walk that doesn't come after the walk without links has no links.
none_no_later : (w : List Link) → IsNoLater w [] → length w ≡ 0
none_no_later w h = search rules

-- If a walk may leave a router, so may each walk to this router that doesn't come after it in the
-- order of walks.
leaves_no_later : (d : Database) (router : ℕ) (v w : List Link) → MayLeave d router (length v) → IsNoLater w v → MayLeave d router (length w)
leaves_no_later d router v w h1 h = grind (arith, common_steps, none_no_later)

module _ (d : Database) (q : Request) where
  -- If a walk has reached the router where an admissible link begins, and may leave this router,
  -- the link meets `LeadsOn`.
  leads_on : (v : List Link) (l : Link) (k : ℕ) → IsAdmissible d q l → MayLeave d l.from (length v) → Reaches d q v (record { leg = k; router = l.from })
      → LeadsOn d q l
  leads_on v l k a h2 r = search (rules, reached_walk)

  -- If the potential is consistent, each step of a walk, by a link or to the next leg, gives a walk
  -- that comes after the first walk by cost plus potential.
  step_grows : (potential : State → ℕ) → IsConsistent d q potential → (v x : List Link) (s t : State) → Reaches d q v s → IsStep d q v s x t
      → potential_cmp potential (s, v) (t, x) ≡ Less
  step_grows potential up v x s t r (by_link {leg = k} l a enters leaves) =
      let leg = reached_leg d q v (record { leg = k; router = l.from }) r in
      potential_cmp-push potential (record { leg = k; router = l.from }) (record { leg = k; router = l.to }) v l (up.links k l leg.0 leg.1 (leads_on v l k a leaves r) enters).0
  step_grows potential up v x s t r (by_turn {leg = k} {router = router} within target) =
      let leg = reached_leg d q v (record { leg = k; router = router }) r in potential_cmp-turn potential k router v (up.turns k router leg.0 within target)

  -- If a walk reaches a state (a router in a leg) whose potential is below `NO_WAY`, the potential
  -- of the head-end in the first leg is also below `NO_WAY`. The potential of a state stands for a
  -- lower bound of the cost from the state to the tail-end.
  way_back : (potential : State → ℕ) → IsConsistent d q potential → (w : List Link) (s : State) → Reaches d q w s → potential s < NO_WAY
      → potential (start_of q) < NO_WAY
  way_back potential up w s starts way = way
  way_back potential up w s (steps {v} r (by_link {leg = k} l a enters leaves)) way =
      let leg = reached_leg d q v (record { leg = k; router = l.from }) r in
      way_back potential up v (record { leg = k; router = l.from }) r ((up.links k l leg.0 leg.1 (leads_on v l k a leaves r) enters).1 way)
  way_back potential up w s (steps {v} r (by_turn {leg = k} {router = router} within target)) way =
      let leg = reached_leg d q v (record { leg = k; router = router }) r in
      way_back potential up v (record { leg = k; router = router }) r (omega (arith, up.turns k router leg.0 within target, way))

  -- If the potential of the head-end in the first leg is `NO_WAY`, there is no route.
  pub no_way : (potential : State → ℕ) → IsConsistent d q potential → potential (end_state q) ≡ 0 → potential (start_of q) ≡ NO_WAY → (w : List Link) → IsRoute d q w → ⊥
  no_way potential up end start w route =
      omega (arith, way_back potential up w (end_state q) (route_reaches d q w route) (omega (arith, end)), start)

  -- If a step leads from an unsettled state into a leg after the closed legs, the unsettled state
  -- is itself in a leg after the closed legs. A state is a router in a leg.
  step_behind : (labels : Labels) (closed : ℕ) → IsClosed d q labels closed → (v x : List Link) (s t : State) → Reaches d q v s → IsStep d q v s x t
      → labels s ≡ None → closed < t.leg → closed < s.leg
  step_behind labels closed shut v x s t r (by_link {leg = k} l a enters leaves) left h = h
  step_behind labels closed shut v x s t r (by_turn {leg = k} {router = router} within target) left h =
      let leg = reached_leg d q v (record { leg = k; router = router }) r in
      elim (cases_lt closed k) [
        | inl lt ↦ lt
        | inr ge ↦
            let same : closed ≡ k = omega (arith, h) in
            absurd (shut (omega (arith, leg.0)) router (subst (λ j. MayTurn d q j router) (sym same) target)
            (subst (λ j. labels (record { leg = j; router = router }) ≡ None) (sym same) left))
      ]

  -- If a step continues the walk `v` to `x`, and the walk `w` to the same state doesn't come after
  -- `v`, the same step continues `w` to a walk that doesn't come after `x`.
  step_no_later : (v x : List Link) (s t : State) → IsStep d q v s x t → (w : List Link) → IsNoLater w v
      → (y : List Link) × IsStep d q w s y t × IsNoLater y x
  step_no_later v x s t (by_link {leg = k} l a enters leaves) w h = (w ++ (l ∷ []), by_link l a enters (leaves_no_later d l.from v w leaves h), rw (walk_cmp-push w v l) h)
  step_no_later v x s t (by_turn within target) w h = (w, by_turn within target, h)

  module _ (labels : Labels) (settled : AreSettled d q labels) where
    -- Let a step continue a walk `v` to a settled state (a router in a leg) by one step, to a walk
    -- `x` to an unsettled state. The same step continues the settled walk of the first state, and
    -- gives a walk that doesn't come after `x`.
    crossing_from : (v x : List Link) (s u : State) → Reaches d q v s → IsStep d q v s x u → (f : List Link) → labels s ≡ Some f → labels u ≡ None
        → (y : List Link) × Crosses d q labels y u × IsNoLater y x
    crossing_from v x s u r st f here left =
        let same = step_no_later v x s u st f (settled.least s f v here r) in
        (same.0, record { state = s; front = f; settled = here; step = same.1; still_open = left }, same.2)

    -- If no step continues a settled walk to an unsettled state in a leg after the closed legs, no
    -- walk at all reaches an unsettled state in such a leg. A state is a router in a leg.
    all_settled : (closed : ℕ) → IsClosed d q labels closed → ((y : List Link) (u : State) → Crosses d q labels y u → closed < u.leg → ⊥)
        → (x : List Link) (u : State) → Reaches d q x u → labels u ≡ None → closed < u.leg → ⊥
    all_settled closed shut stuck x u starts left behind = cc (settled.start)
    all_settled closed shut stuck x u (steps {v} {s = s} r st) left behind =
        elim (labels s) as (λ o. labels s ≡ o → ⊥) [
          | Some f ↦ λ here. let c = crossing_from v x s u r st f here left in stuck c.0 u c.1 behind
          | None ↦ λ open_there. all_settled closed shut stuck v s r open_there (step_behind labels closed shut v x s u r st open_there behind)
        ] refl

    -- Let `w` be the next walk to settle, by `IsFirstCrossing`. No walk to an unsettled state in a
    -- leg after the closed legs precedes `w` by cost plus potential. No such walk to the state of
    -- `w` precedes `w` in the order of walks. A state is a router in a leg.
    pub no_earlier : (w : List Link) (t : State) (first : IsFirstCrossing d q labels w t) (x : List Link) (u : State) → Reaches d q x u → labels u ≡ None
        → first.closed < u.leg → RanksNoLater first.potential t w u x × (u ≡ t → IsNoLater w x)
    no_earlier w t first x u starts left behind = cc (settled.start)
    no_earlier w t first x u (steps {v} {s = s} r st) left behind =
        elim (labels s) as (λ o. labels s ≡ o → RanksNoLater first.potential t w u x × (u ≡ t → IsNoLater w x)) [
          | Some f ↦ λ here.
              let c = crossing_from v x s u r st f here left in (
                upto (potentials_total first.potential) (t, w) (u, c.0) (u, x) (first.first c.0 u c.1 behind) (rank_from_walk first.potential u c.0 x c.2),
                λ same. no_later_trans w c.0 x (first.first_here c.0 (subst (λ y. Crosses d q labels c.0 y) same c.1)) c.2,
              )
          | None ↦ λ open_there.
              let before = no_earlier w t first v s r open_there (step_behind labels first.closed first.is_closed v x s u r st open_there behind) in
              let less = before_less first.potential (t, w) (s, v) (u, x) before.0 (step_grows first.potential first.consistent v x s u r st) in
              (rw less refl, λ same. walk_from_less first.potential t w x (rw same at less))
        ] refl

    -- After the next walk is settled, each settled walk is still the least walk to its state (a
    -- router in a leg).
    pub settled_push : (w : List Link) (t : State) → IsFirstCrossing d q labels w t → (after : Labels) → Adds labels t w after → AreSettled d q after
    settled_push w t first after more = record {
      start = more.keeps _ _ settled.start;
      reached = λ s x is.
          elim (more.adds s x is) [
            | inl old ↦ settled.reached s x old
            | inr new ↦
                let c = first.crosses in
                rw (new.0, new.1) (steps (settled.reached c.state c.front c.settled) c.step)
          ];
      least = λ s x y is r.
          elim (more.adds s x is) [
            | inl old ↦ settled.least s x y old r
            | inr new ↦
                rw new.1 ((no_earlier w t first y s r (ap labels new.0 ∙ first.crosses.still_open) (omega (arith, first.behind, ap (λ (s : State). s.leg) new.0))).1 new.0)
          ];
    }

    -- The settled walk of the end state (the tail-end in the last leg) is the best route.
    pub settled_best : (w : List Link) → labels (end_state q) ≡ Some w → IsBestRoute d q w
    settled_best w is = record {
      is_route = reaches_route d q w (settled.reached (end_state q) w is);
      least = λ other route less.
          let no_later = settled.least (end_state q) w other is (route_reaches d q other route) in
          let turned = walks_total.antisymm w other in
          cc (ap ordering_reverse less);
    }

    -- If the search can't go on, by `IsStuck`, and the tail-end isn't settled in the last leg,
    -- there is no route.
    pub no_route : IsStuck d q labels → labels (end_state q) ≡ None → (w : List Link) → IsRoute d q w → ⊥
    no_route stuck left w route =
        all_settled stuck.closed stuck.is_closed stuck.none w (end_state q) (route_reaches d q w route) left (omega (arith, stuck.low))
