use Rattle.std.proofs.Common.{sym, ◌∙◌, eqb-true}
use Rattle.std.proofs.lemmas.Bool.{false≢true}
use Rattle.cspf_model.specs.Changes.{after_changes}
use Rattle.cspf_book.proofs.RouteWalks.{its_link}
use Rattle.cspf_book.proofs.lost.has_its_link.Goals as goal
use Rattle.cspf_book.proofs.lost.has_its_link.Goals.{then-eq, else-eq}

pub returns-then-accepts : goal.returns-then-accepts
returns-then-accepts c =
    let d = after_changes c.args.base.now c.args.changes.now in
    let q = c.args.request.now in
    let l = c.args.link.now in
    let found = c.in-Some.found in
    elim c.if-eq.branch [
      | then-eq w ↦
          let both = its_link d q l found c.in-Some.ensures.found c.in-Some.ensures.keyed (eqb-true found.to l.to (sym c.eq.ensures ∙ w.if-eq.true)) (w.accepts.ensures.0 (sym w.value-is ∙ c.if-accepts.true)) in
          (λ yes. both.0 (c.has_reverse_after.ensures.0 yes), λ its. c.has_reverse_after.ensures.1 (both.1 its))
      | else-eq w ↦ absurd (false≢true (sym w.if-eq.false ∙ sym w.value-is ∙ c.if-accepts.true))
    ]
