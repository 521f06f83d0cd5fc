-- Lemmas on the lower bounds of the cost from the routers of one leg to the tail-end.
use Rattle.std.proofs.Common.{◌≡◌, ◌≢◌, ◌⊎◌, inl, inr, ℕ, ◌+◌, ◌*◌, ◌/◌, ◌%◌, ◌^◌, ◌<◌, ◌≤◌, min, Bool, true, false, IsTrue, List, drop, length, replicate, set, slice_get, slice_index, slice_index_or, Some, sym, ap, subst, ◌∙◌, arith, rules}
use Rattle.std.proofs.lemmas.Bool.{cases_lt, false≢true}
use Rattle.std.proofs.lemmas.List.{get_or_past, get_or-drop, get_or-replicate, length-replicate, get_or-set_other}
use Rattle.std.proofs.lemmas.Option.{get_or_from_slice_get}
use Rattle.cspf_model.specs.declared.link.Link.{Link}
use Rattle.cspf_model.specs.declared.request.Request.{Request}
use Rattle.cspf_model.specs.Database.{Database}
use Rattle.cspf_db.specs.Index.{router_list}
use Rattle.cspf_search.specs.declared.ring.Ring.{Ring}
use Rattle.cspf_graph.specs.declared.roles.Role.{Role}
use Rattle.cspf_graph.specs.Lists.{AreListed, IsIndexOf}
use Rattle.cspf_graph.specs.Roles.{AreRoles, IsStateIndex, MayEnter, MayTurn}
use Rattle.cspf_graph.specs.RoleSteps.{nothing}
use Rattle.cspf_search.specs.declared.limits.TheConstants.{NO_WAY}
use Rattle.cspf_search.specs.Settled.{IsWithin}
use Rattle.cspf_search.specs.Bounds.{ArePassed, AreBounds, Falls, IsLegBound, IsRing, IsDeadEnd, AreLooked, bound_at, is_done}
use Rattle.cspf_graph.proofs.RouterIndexes.{same_or_not}

-- If no router is done, `IsRing` holds, because it is a statement about done routers only. A router
-- is done if the backward search has looked at all links that end at this router.
pub none_done : (d : Database) (q : Request) (leg : ℕ) (ring : Ring) → ((w : ℕ) → is_done ring w ≡ false) → IsRing d q leg ring
none_done d q leg ring none u w on l admissible enters from to = absurd (false≢true (sym (none w) ∙ on))

-- `IsRing` still holds after some bounds are lowered, if each router that is done keeps its bound.
-- A router is done if the backward search has looked at all links that end at this router.
pub fallen_ring : (d : Database) (q : Request) (leg : ℕ) (old new : Ring) → Falls old new → IsRing d q leg old → IsRing d q leg new
fallen_ring d q leg old new falls ring = search rules

pub same_ring : (d : Database) (q : Request) (leg : ℕ) (old new : Ring) → new.near ≡ old.near → new.done ≡ old.done → IsRing d q leg old → IsRing d q leg new
same_ring d q leg old new near marks ring u w on l admissible enters from end =
    rw near (ring u w (rw marks at on) l admissible enters from end)

-- If no link may lead a route to a router in the leg, `IsRing` still holds after this router is
-- recorded as done, although the search hasn't looked at the links that end there.
pub one_shut : (d : Database) (q : Request) (leg to : ℕ) (ring : Ring) → IsRing d q leg ring → ((l : Link) → MayEnter d q (leg + 1) l.to → IsIndexOf d l.to to → ⊥)
    → AreLooked d q leg ring.near.items (set ring.done.items to true)
one_shut d q leg to ring is shut u w on l admissible enters from end =
    elim (same_or_not w to) [
      | inl here ↦ absurd (shut l enters (subst (IsIndexOf d l.to) here end))
      | inr ne ↦ is u w (sym (get_or-set_other ring.done.items to w true false ne) ∙ on) l admissible enters from end
    ]

-- Lemmas on the router `to`, after the search has looked at all links that end at this router.
module _ (d : Database) (q : Request) (leg to base : ℕ) (old new : Ring) (ring : IsRing d q leg old) (falls : Falls old new)
    (passed : ArePassed d q base new to) (same : bound_at new.near.items to ≡ base) where
  pub one_router_more : AreLooked d q leg new.near.items (set new.done.items to true)
  one_router_more u w on l admissible enters from end =
      elim (same_or_not w to) [
        | inl here ↦
            let low = passed u l admissible from (subst (IsIndexOf d l.to) here end) in
            let is : bound_at new.near.items w ≡ bound_at new.near.items to = ap (bound_at new.near.items) here in
            (omega (arith, low.0, is, same), λ way. low.1 (omega (arith, way, is, same)))
        | inr ne ↦
            fallen_ring d q leg old new falls ring u w (sym (get_or-set_other new.done.items to w true false ne) ∙ on) l admissible enters from end
      ]

-- If a list is read at the index of a link, the result is this link.
pub link_read : (all read : List Link) (n index : ℕ) (link l : Link) → link ≡ slice_index_or read n link → read ≡ all → n ≡ index → slice_get all index ≡ Some l → link ≡ l
link_read all read n index link l is same at here =
    is ∙ ap (λ ls. slice_index_or ls n link) same ∙ ap (λ k. slice_index_or all k link) at ∙ get_or_from_slice_get all index l link here

-- The bounds of two routers stay consistent over a link when bounds above `edge` are lowered to
-- `edge`. They are consistent, by `IsWithin`, if the entry in `marks` for the router at the link's
-- end is `true`. Otherwise that router has at least the bound `edge`.
pub cut_at_edge : (near : List ℕ) (marks : List Bool) (edge u w metric : ℕ)
    → (slice_index_or marks w false ≡ true → IsWithin (bound_at near u) (bound_at near w) metric)
    → (slice_index_or marks w false ≡ false → edge ≤ bound_at near w)
    → IsWithin (min (bound_at near u) edge) (min (bound_at near w) edge) metric
cut_at_edge near marks edge u w metric within least = search rules

-- If `edge` is at most the bound of each router that the backward search hasn't settled, the bounds
-- that the search has found and this edge are the bounds of the leg, by `IsLegBound`.
pub leg_of_ring : (d : Database) (q : Request) (leg : ℕ) (ring : Ring) (edge : ℕ) → IsRing d q leg ring
    → ((w : ℕ) → w < length (router_list d) → is_done ring w ≡ false → edge ≤ bound_at ring.near.items w) → (ahead : List ℕ)
    → ((p : ℕ) → p < length (router_list d) → MayTurn d q (leg + 1) (slice_index (router_list d) p) → bound_at ring.near.items p ≤ bound_at ahead p)
    → IsLegBound d q leg ring.near.items edge ahead
leg_of_ring d q leg ring edge links least ahead targets = search rules

-- If a route may go on to the next leg at a router, the router's role in this leg has the flag
-- `target`.
pub told_target : (d : Database) (q : Request) (roles : List Role) (leg p : ℕ) → AreListed d → AreRoles d q roles → leg ≤ length q.hops → p < length (router_list d)
    → MayTurn d q (leg + 1) (slice_index (router_list d) p) → IsTrue (slice_index_or roles (leg * 1024 + p) nothing).target
told_target d q roles leg p listed are within h target = search rules

-- A list of bounds that are all 0 is a list of lower bounds, by `AreBounds`.
pub zero_bounds : (d : Database) (q : Request) (bounds : List ℕ) → length bounds ≡ (length q.hops + 1) * 1024 → ((i : ℕ) → bound_at bounds i ≡ 0) → AreBounds d q bounds
zero_bounds d q bounds many zeros = search rules

pub zeros_at : (count i : ℕ) → bound_at (replicate count 0) i ≡ 0
zeros_at count i =
    let zero : ℕ = 0 in
    elim (cases_lt i count) [
      | inl lt ↦ get_or-replicate count i zero zero lt
      | inr past ↦ get_or_past (replicate count zero) i zero (omega (arith, past, length-replicate count zero))
    ]

-- Lemmas on setting the bounds of one more leg. The search sets them from the last leg to the
-- first.
module _ (d : Database) (q : Request) (leg count : ℕ) (all : count ≡ length (router_list d)) (few : count ≤ 1024) (old new near : List ℕ) (edge : ℕ) (small : edge < 2 ^ 32) (before : AreBounds d q old)
    (zeros : (i : ℕ) → i < (leg + 1) * 1024 → bound_at old i ≡ 0) (is : IsLegBound d q leg near edge (drop (leg * 1024 + 1024) old)) (long : length new ≡ length old)
    (here : (p : ℕ) → p < count → bound_at new (leg * 1024 + p) ≡ min (bound_at near p) edge)
    (others : (i : ℕ) → (i < leg * 1024) ⊎ (leg * 1024 + count ≤ i) → bound_at new i ≡ bound_at old i) where
  in_leg : (i : ℕ) → i % 1024 < length (router_list d) → i / 1024 ≡ leg → bound_at new i ≡ min (bound_at near (i % 1024)) edge
  in_leg i place same = search rules

  off_leg : (i : ℕ) → i / 1024 ≢ leg → bound_at new i ≡ bound_at old i
  off_leg i ne = search rules

  behind_leg : (i : ℕ) → i / 1024 ≡ leg → bound_at (drop (leg * 1024 + 1024) old) (i % 1024) ≡ bound_at old (i + 1024)
  behind_leg i same = search (rules, get_or-drop)

  target_ahead : (i : ℕ) → IsStateIndex d q i → i / 1024 ≡ leg → MayTurn d q (i / 1024 + 1) (slice_index (router_list d) (i % 1024))
      → bound_at new i ≤ bound_at old (i + 1024)
  target_ahead i ix same target = search (rules, behind_leg, in_leg)

  pub one_leg_more : AreBounds d q new
  one_leg_more = record {
    many = long ∙ before.many;
    small = λ i.
        elim (same_or_not (i / 1024) leg) [
          | inl same ↦
              elim (cases_lt (i % 1024) count) [
                | inl lt ↦ omega (arith, in_leg i (omega (arith, lt, all)) same, small)
                | inr ge ↦ omega (arith, others i (inr (omega (arith, same, ge))), before.small i)
              ]
          | inr ne ↦ omega (arith, off_leg i ne, before.small i)
        ];
    links = λ i j ix jx same l admissible enters from to.
        elim (same_or_not (i / 1024) leg) [
          | inl at ↦
              let entered : MayEnter d q (leg + 1) l.to = subst (λ k. MayEnter d q (k + 1) l.to) (sym same ∙ at) enters in
              let ends = is.links (i % 1024) (j % 1024) l admissible entered (record { within = ix.place; is = sym from }) (record { within = jx.place; is = sym to }) in
              let near = in_leg i ix.place at in
              let ahead = in_leg j jx.place (sym same ∙ at) in
              (omega (arith, near, ahead, ends.0), λ way. omega (arith, near, ends.1 (omega (arith, ahead, way))))
          | inr ne ↦
              let near = off_leg i ne in
              let ahead = off_leg j (λ e. ne (same ∙ e)) in
              let ends = before.links i j ix jx same l admissible enters from to in
              (omega (arith, near, ahead, ends.0), λ way. omega (arith, near, ends.1 (omega (arith, ahead, way))))
        ];
    turns = λ i ix below target.
        elim (same_or_not (i / 1024) leg) [
          | inl at ↦ omega (arith, target_ahead i ix at target, others (i + 1024) (inr (omega (arith, at, few))))
          | inr ne ↦
              elim (same_or_not (i / 1024 + 1) leg) [
                | inl next ↦ omega (arith, off_leg i ne, zeros i (omega (arith, next)))
                | inr far ↦ omega (arith, off_leg i ne, off_leg (i + 1024) (λ e. far (omega (arith, e))), before.turns i ix below target)
              ]
        ];
    last = λ i ix is_last target.
        elim (same_or_not (i / 1024) leg) [
          | inl at ↦
              let past : bound_at old (i + 1024) ≡ 0 = get_or_past old (i + 1024) 0 (omega (arith, is_last, before.many)) in
              omega (arith, target_ahead i ix at target, past)
          | inr ne ↦ off_leg i ne ∙ before.last i ix is_last target
        ];
  }

  pub zeros_below : (i : ℕ) → i < leg * 1024 → bound_at new i ≡ 0
  zeros_below i low = others i (inl low) ∙ zeros i (omega (arith, low))

-- Lemmas on a leg to a hop that is a dead end: no router at which a route may go on to the next leg
-- has a way from there to the tail-end. Then there is no way to the tail-end from this leg, nor
-- from an earlier one.
module _ (d : Database) (q : Request) (leg : ℕ) (old new : List ℕ) (before : AreBounds d q old) (is : IsDeadEnd d q leg (drop (leg * 1024 + 1024) old)) (long : length new ≡ length old)
    (here : (i : ℕ) → i < leg * 1024 + 1024 → bound_at new i ≡ NO_WAY) (others : (i : ℕ) → leg * 1024 + 1024 ≤ i → bound_at new i ≡ bound_at old i) where
  -- The bound of each state (a router in a leg) up to this leg is `NO_WAY`, and the bound of each
  -- state in a later leg doesn't change.
  side : (i : ℕ) → (bound_at new i ≡ NO_WAY) ⊎ (bound_at new i ≡ bound_at old i)
  side i = elim (cases_lt i (leg * 1024 + 1024)) [ inl low ↦ inl (here i low) | inr high ↦ inr (others i high) ]

  pub no_leg_more : AreBounds d q new
  no_leg_more = record {
    many = long ∙ before.many;
    small = λ i. elim (side i) [ inl shut ↦ omega (arith, shut) | inr same ↦ omega (arith, same, before.small i) ];
    links = λ i j ix jx same l admissible enters from to.
        elim (cases_lt i (leg * 1024 + 1024)) [
          | inl low ↦ (omega (arith, here i low, here j (omega (arith, low, same))), λ way. absurd (omega (arith, way, here j (omega (arith, low, same)))))
          | inr high ↦
              let ends = before.links i j ix jx same l admissible enters from to in
              let near = others i high in
              let ahead = others j (omega (arith, high, same)) in
              (omega (arith, near, ahead, ends.0), λ way. omega (arith, near, ends.1 (omega (arith, ahead, way))))
        ];
    turns = λ i ix below target.
        elim (cases_lt i (leg * 1024)) [
          | inl low ↦ omega (arith, here i (omega (arith, low)), here (i + 1024) (omega (arith, low)))
          | inr from ↦ elim (cases_lt i (leg * 1024 + 1024)) [
            | inl within ↦
                let at : i / 1024 ≡ leg = omega (arith, from, within) in
                let whole : leg * 1024 + 1024 + i % 1024 ≡ i + 1024 = omega (arith, at) in
                let ahead : bound_at (drop (leg * 1024 + 1024) old) (i % 1024) ≡ bound_at old (i + 1024) = get_or-drop (leg * 1024 + 1024) old (i % 1024) 0 ∙ ap (bound_at old) whole in
                let none = is.targets (i % 1024) ix.place (subst (λ k. MayTurn d q (k + 1) (slice_index (router_list d) (i % 1024))) at target) in
                omega (arith, here i within, others (i + 1024) (omega (arith, from)), ahead, none)
            | inr high ↦ omega (arith, others i high, others (i + 1024) (omega (arith, high)), before.turns i ix below target)
          ]
        ];
    last = λ i ix is_last target. others i (omega (arith, is_last, is.hop)) ∙ before.last i ix is_last target;
  }
