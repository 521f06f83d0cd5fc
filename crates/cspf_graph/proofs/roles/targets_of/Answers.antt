use Rattle.std.proofs.Common.{◌≡◌, ◌+◌, suc, slice_get, Some, inl, inr, sym, subst, ap, ◌∙◌, arith}
use Rattle.std.proofs.lemmas.Option.{none-some, slice_get_cases}
use Rattle.cspf_model.specs.Targets.{IsTarget, IsTargetOf}
use Rattle.cspf_graph.specs.Lists.{router_at}
use Rattle.cspf_graph.proofs.roles.targets_of.Goals as goal

pub returns-in_ok-owners-in-Some : goal.returns-in_ok-owners-in-Some
returns-in_ok-owners-in-Some c =
    let d = c.args.table.now in
    let q = c.args.request.now in
    let i = c.args.leg_index in
    let hop : slice_get q.hops i ≡ Some c.in-Some.hop = sym c.get.ensures ∙ c.in-Some.is in
    let next : suc i ≡ i + 1 = omega arith in
    let are = c.list_owners.ensures.owners in
    record {
      within = are.within;
      each = λ p low.
          let target : IsTarget d q (i + 1) (router_at d p) ≡ IsTargetOf d q.to (Some c.in-Some.hop) (router_at d p) = ap (λ k. IsTarget d q k (router_at d p)) (sym next) ∙ ap (λ o. IsTargetOf d q.to o (router_at d p)) hop in
          let owned = are.each p low in
          (λ has. subst (λ (T : Type 0). T) (sym target) (owned.0 has), λ is. owned.1 (subst (λ (T : Type 0). T) target is));
    }

pub returns-in-None : goal.returns-in-None
returns-in-None c =
    let none = sym c.get.ensures ∙ c.in-None.is in
    elim (slice_get_cases c.args.request.now.hops c.args.leg_index).1 [ inl here ↦ absurd (none-some here.0 (sym none ∙ here.2)) | inr past ↦ absurd (omega (arith, past.0, c.requires)) ]
