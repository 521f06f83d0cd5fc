use Rattle.std.proofs.Common.{sym, subst, ◌∙◌}
use Rattle.cspf_model.specs.Admissible.{IsAdmitted}
use Rattle.cspf_book.proofs.UntouchedRoutes.{admitted_goes_on, admitted_if_goes_on, some_same}
use Rattle.cspf_book.proofs.lost.may_still_go_on.Goals as goal

pub returns-else-may_touch : goal.returns-else-may_touch
returns-else-may_touch c =
    λ before.
    let d = c.args.base.now in
    let q = c.args.request.now in
    let l = c.args.link.now in (
      λ yes.
          let its = c.has_admitted_link.ensures.0 yes in
          admitted_goes_on d c.args.changes.now c.args.moved.now c.requires c.within_limits.ensures.keyed q c.args.links c.args.router l (c.may_touch.ensures c.if-may_touch.false) before
          (λ _ m is _ _. subst (IsAdmitted q) (some_same its.found m (sym its.link ∙ is)) its.admitted),
      λ goes. c.has_admitted_link.ensures.1 (admitted_if_goes_on _ q c.args.links c.args.router l goes),
    )
