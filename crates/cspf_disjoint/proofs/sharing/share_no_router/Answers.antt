use Rattle.std.proofs.Common.{sym, subst, ◌∙◌}
use Rattle.std.specs.List.{AllPairs}
use Rattle.cspf_pair.specs.Pairs.{AreDifferent, ShareNoRouter}
use Rattle.cspf_disjoint.proofs.sharing.share_no_router.Goals as goal

pub returns-in_ok-routers-in-Routers : goal.returns-in_ok-routers-in-Routers
returns-in_ok-routers-in-Routers c = λ yes.
    subst (λ k. ShareNoRouter k c.args.request.now c.args.one.now c.args.other.now) (sym c.in-Routers.is)
    (subst (AllPairs AreDifferent) (c.deref.ensures.value ∙ c.in_ok-routers-in-Routers.ensures) (c.are_different.ensures yes))
