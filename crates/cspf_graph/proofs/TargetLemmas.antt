-- The targets of the leg to a hop are the routers that own the hop's prefix. The target of the leg
-- after the last hop is the tail-end.
use Rattle.std.proofs.Common.{◌≡◌, ◌≢◌, ℕ, zero, suc, ◌-◌, ◌↔◌, Bool, Option, Some, None, IsTrue, nat_eq, slice_get, refl, sym, ap, subst, ◌∙◌, arith}
use Rattle.std.proofs.lemmas.Bool.{eqb-true, eq-eqb}
use Rattle.cspf_addr.specs.declared.hop.Hop.{Hop}
use Rattle.cspf_model.specs.declared.request.Request.{Request}
use Rattle.cspf_model.specs.Database.{Database}
use Rattle.cspf_model.specs.Targets.{IsTarget, IsTargetOf, Owns}

module _ (d : Database) (q : Request) (leg router : ℕ) (later : leg ≢ 0) (b : Bool) where
  -- From leg 1 on, the hop with the index `leg - 1` gives the targets of the leg (routers where the
  -- leg may end). If there is no such hop, the tail-end is the only target.
  targets_of_hop : (leg : ℕ) (o : Option Hop) → leg ≢ 0 → slice_get q.hops (leg - 1) ≡ o → IsTargetOf d q.to o router ≡ IsTarget d q leg router
  targets_of_hop zero o later e = absurd (later refl)
  targets_of_hop (suc i) o later e =
      let one_less : suc i - 1 ≡ i = omega arith in
      ap (λ p. IsTargetOf d q.to p router) (sym e ∙ ap (slice_get q.hops) one_less)

  pub target_by_hop : (hop : Hop) → slice_get q.hops (leg - 1) ≡ Some hop → IsTrue b ↔ Owns d hop.prefix router → IsTrue b ↔ IsTarget d q leg router
  target_by_hop hop e owns = subst (λ (T : Type 0). IsTrue b ↔ T) (targets_of_hop leg (Some hop) later e) owns

  pub target_at_end : slice_get q.hops (leg - 1) ≡ None → b ≡ nat_eq router q.to → IsTrue b ↔ IsTarget d q leg router
  target_at_end e same =
      let here : IsTrue b ↔ (router ≡ q.to) = (λ t. eqb-true router q.to (sym same ∙ t), λ h. same ∙ eq-eqb router q.to h) in
      subst (λ (T : Type 0). IsTrue b ↔ T) (targets_of_hop leg None later e) here
