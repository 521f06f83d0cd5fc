-- If no route can pass a strict leg, the tail-end can't be reached from the routers where this leg
-- begins, nor from earlier legs.
use Rattle.std.proofs.Common.{◌≡◌, ◌⊎◌, inl, inr, ℕ, suc, ◌+◌, ◌*◌, ◌/◌, ◌%◌, ◌<◌, ◌≤◌, List, Contains, length, sym, ap, subst, ◌∙◌, arith, rules}
use Rattle.std.proofs.lemmas.Bool.{cases_lt}
use Rattle.cspf_model.specs.declared.request.Request.{Request}
use Rattle.cspf_model.specs.Database.{Database}
use Rattle.cspf_model.specs.Targets.{IsInside, IsTarget}
use Rattle.cspf_search.specs.declared.limits.TheConstants.{NO_WAY}
use Rattle.cspf_graph.specs.Roles.{MayTurn, IsStateIndex, AreTargetsOf}
use Rattle.cspf_graph.specs.Lists.{AreListed, router_at}
use Rattle.cspf_search.specs.Bounds.{AreBounds, bound_at}
use Rattle.cspf_search.specs.Settled.{IsWithin}
use Rattle.cspf_search.specs.Strict.{IsBroken}

module _ (d : Database) (q : Request) (listed : AreListed d) (leg : ℕ) (broken : IsBroken d q leg) (starts : List ℕ) (are : AreTargetsOf d q leg starts)
    (bounds : List ℕ) (many : length bounds ≡ (length q.hops + 1) * 1024) (before : (i : ℕ) → i < leg * 1024 → bound_at bounds i ≡ NO_WAY)
    (shut : (p : ℕ) → Contains starts p → bound_at bounds (leg * 1024 + p) ≡ NO_WAY)
    (others : (i : ℕ) → leg * 1024 ≤ i → (bound_at bounds i ≡ 0) ⊎ ((p : ℕ) × Contains starts p × (i ≡ leg * 1024 + p))) where
  -- Each bound in the list `bounds` is either `NO_WAY` or 0.
  either : (i : ℕ) → (bound_at bounds i ≡ NO_WAY) ⊎ (bound_at bounds i ≡ 0)
  either i = search rules

  -- Lemmas on a state of the leg (a router in this leg) whose router is one of those where the leg
  -- begins.
  module _ (i p : ℕ) (ix : IsStateIndex d q i) (has : Contains starts p) (is : i ≡ leg * 1024 + p) where
    place : i % 1024 ≡ p
    place = omega (arith, is, ix.place, listed.few, are.within has.0 0 has.1, has.2)

    in_leg : i / 1024 ≡ leg
    in_leg = omega (arith, is, place)

    begins : IsTarget d q leg (router_at d (i % 1024))
    begins = (are.each (i % 1024) ix.place).0 (subst (Contains starts) (sym place) has)

  -- A state of the leg (a router in this leg) has the bound `NO_WAY` if the leg begins at its
  -- router.
  shut_there : (i : ℕ) → IsStateIndex d q i → i / 1024 ≡ leg → IsTarget d q leg (router_at d (i % 1024)) → bound_at bounds i ≡ NO_WAY
  shut_there i ix at target =
      let whole : leg * 1024 + i % 1024 ≡ i = omega (arith, at) in
      ap (bound_at bounds) (sym whole) ∙ shut (i % 1024) ((are.each (i % 1024) ix.place).1 target)

  pub broken_bounds : AreBounds d q bounds
  broken_bounds = record {
    many = many;
    small = λ i. elim (either i) [ inl none ↦ omega (arith, none) | inr zero ↦ omega (arith, zero) ];
    links = λ i j ix jx same l leads enters from to.
        elim (cases_lt i (leg * 1024)) [
          | inl low ↦
              let ahead = before j (omega (arith, low, same)) in
              (omega (arith, before i low, ahead), λ way. absurd (omega (arith, way, ahead)))
          | inr high ↦ elim (others i high) [
            | inl zero ↦ (omega (arith, zero), λ way. omega (arith, zero))
            | inr at ↦
                let here = in_leg i at.0 ix at.1 at.2 in
                let start = begins i at.0 ix at.1 at.2 in
                let there : j / 1024 ≡ leg = sym same ∙ here in
                let next : j / 1024 + 1 ≡ suc leg = omega (arith, there) in
                let inside : IsInside d q (suc leg) l.to = subst (λ k. IsInside d q k l.to) next enters.inside in
                let shut_ahead : IsTarget d q leg l.to → IsWithin (bound_at bounds i) (bound_at bounds j) l.metric = λ target.
                let ahead = shut_there j jx there (subst (IsTarget d q leg) to target) in
                let own = shut_there i ix here start in
                (omega (arith, own, ahead), λ way. absurd (omega (arith, way, ahead))) in
                elim inside [
                  | inl loose ↦ absurd (broken.strict loose)
                  | inr (inl target) ↦ shut_ahead target
                  | inr (inr target) ↦
                      let leg_is : suc leg ≡ leg + 1 = omega arith in
                      let turns : MayTurn d q (leg + 1) l.to = record {
                        target = subst (λ k. IsTarget d q k l.to) leg_is target;
                        stands = elim enters.through [ inl transit ↦ inl transit | inr ends ↦ inr (inr ends) ];
                      } in
                      absurd ((broken.apart (i % 1024) ix.place start).links l leads from turns)
                ]
          ]
        ];
    turns = λ i ix below target.
        elim (cases_lt i (leg * 1024)) [
          | inl low ↦ elim (cases_lt (i + 1024) (leg * 1024)) [
            | inl still ↦ omega (arith, before i low, before (i + 1024) still)
            | inr ge ↦
                let last : i / 1024 + 1 ≡ leg = omega (arith, low, ge) in
                let same : (i + 1024) % 1024 ≡ i % 1024 = omega arith in
                let next : (i + 1024) / 1024 ≡ leg = omega (arith, last) in
                let ix_next : IsStateIndex d q (i + 1024) = record { low = omega (arith, last, broken.hop, ix.low); place = rw same ix.place } in
                let start : IsTarget d q leg (router_at d ((i + 1024) % 1024)) = rw same (subst (λ k. IsTarget d q k (router_at d (i % 1024))) last target.target) in
                omega (arith, before i low, shut_there (i + 1024) ix_next next start)
          ]
          | inr high ↦ elim (others i high) [
            | inl zero ↦ omega (arith, zero)
            | inr at ↦
                let here = in_leg i at.0 ix at.1 at.2 in
                let start = begins i at.0 ix at.1 at.2 in
                absurd ((broken.apart (i % 1024) ix.place start).turns (subst (λ k. MayTurn d q (k + 1) (router_at d (i % 1024))) here target))
          ]
        ];
    last = λ i ix is_last target.
        elim (others i (omega (arith, is_last, broken.hop))) [
          | inl zero ↦ zero
          | inr at ↦ absurd (omega (arith, in_leg i at.0 ix at.1 at.2, is_last, broken.hop))
        ];
  }
