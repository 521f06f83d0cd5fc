use Rattle.std.proofs.Common.{sym, ◌∙◌, eqb-true, eq-eqb}
use Rattle.cspf_model.specs.Changes.{after_changes}
use Rattle.cspf_book.proofs.ChangedBases.{reverse_found}
use Rattle.cspf_book.proofs.after.has_reverse_after.Goals as goal

pub returns-then-eq : goal.returns-then-eq
returns-then-eq c =
    let d = after_changes c.args.base.now c.args.changes.now in
    let l = c.args.link.now in
    let back = c.in-Some.back in
    let both = reverse_found d l back c.in-Some.ensures.found c.in-Some.ensures.keyed (eqb-true back.to l.from (sym c.eq.ensures ∙ c.if-eq.true)) in
    (λ yes. both.0 (eqb-true back.remote l.local (sym c.eq-then-eq.ensures ∙ yes)), λ has. c.eq-then-eq.ensures ∙ eq-eqb back.remote l.local (both.1 has))
