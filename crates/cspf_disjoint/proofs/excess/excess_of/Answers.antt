use Rattle.std.proofs.Common.{inl, subst, arith}
use Rattle.std.specs.List.Sorted.{IsStrictlyIncreasing}
use Rattle.cspf_disjoint.proofs.Numbers.{number_for-index}
use Rattle.cspf_disjoint.proofs.excess.excess_of.Goals as goal

pub returns : goal.returns
returns c =
    let rising = subst IsStrictlyIncreasing c.routers-routers.ensures.all c.routers-routers.ensures.rising in
    let arrives = number_for-index c.args.table.now rising c.args.lists.arriving.now c.args.link.now.to c.args.to c.requires.to in
    let leaves = number_for-index c.args.table.now rising c.args.lists.leaving.now c.args.link.now.from c.args.from c.requires.from in
    inl (omega (arith, c.saturating_sub-excess.ensures, c.saturating_sub-rise.ensures, c.of_link.ensures, c.number_at.ensures, c.number_at-2.ensures, arrives, leaves))
