use Rattle.std.proofs.Common.{sym, subst, ◌∙◌}
use Rattle.cspf_model.specs.Admissible.{IsAdmitted}
use Rattle.cspf_book.proofs.UntouchedRoutes.{some_same}
use Rattle.cspf_book.proofs.lost.has_admitted_link.Goals as goal

pub returns-in-Some : goal.returns-in-Some
returns-in-Some c = (
  λ yes. record { found = c.in-Some.found; link = sym c.in-Some.ensures.found; admitted = c.accepts.ensures.0 yes },
  λ its. c.accepts.ensures.1 (subst (IsAdmitted c.args.request.now) (some_same its.found c.in-Some.found (sym its.link ∙ sym c.in-Some.ensures.found)) its.admitted),
)
