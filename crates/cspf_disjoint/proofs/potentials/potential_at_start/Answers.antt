use Rattle.std.proofs.Common.{sym, subst, ◌∙◌}
use Rattle.std.specs.List.Sorted.{IsStrictlyIncreasing}
use Rattle.cspf_disjoint.proofs.Numbers.{number_for-index}
use Rattle.cspf_disjoint.proofs.potentials.potential_at_start.Goals as goal

pub returns : goal.returns
returns c =
    let rising = subst IsStrictlyIncreasing c.routers-routers.ensures.all c.routers-routers.ensures.rising in
    c.number_at.ensures
    ∙ sym (number_for-index c.args.table.now rising c.args.lists.leaving.now c.args.request.now.from c.in_ok-place.place (record { within = c.in_ok-place.ensures.bound; is = c.in_ok-place.ensures.some }))
