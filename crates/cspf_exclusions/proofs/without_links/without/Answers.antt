use Rattle.std.proofs.Common.{sym, subst}
use Rattle.std.proofs.lemmas.Result.{IfOk-weaker}
use Rattle.cspf_exclusions.specs.Exclusions.{IsWithout}
use Rattle.cspf_exclusions.proofs.WithoutLinks.{without_removed}
use Rattle.cspf_exclusions.proofs.without_links.without.Goals as goal

pub returns : goal.returns
returns c =
    let d = c.args.table in
    let parts = c.args.exclusions.now in
    let changes = c.in_ok-removals.removals.items in
    IfOk-weaker c.change.result _ _
    (λ left is. subst (IsWithout d parts) (sym is) (without_removed d parts changes (rw c.as_slice.ensures.value at c.in_ok-removals.ensures)))
    (rw c.deref.ensures.value at c.change.ensures)
