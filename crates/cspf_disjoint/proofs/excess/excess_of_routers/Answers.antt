use Rattle.std.proofs.Common.{◌≡◌, ◌<◌, ℕ, List, length, slice_index, slice_index_or, sym, ap, subst, ◌∙◌, arith}
use Rattle.std.specs.List.Sorted.{IsStrictlyIncreasing}
use Rattle.std.proofs.lemmas.List.{get_or_default}
use Rattle.std.proofs.lemmas.List.Sums.{sum_by_more}
use Rattle.cspf_db.specs.Index.{router_list}
use Rattle.cspf_graph.specs.Lists.{IsIndexOf}
use Rattle.cspf_pair.specs.Potentials.{router_excess}
use Rattle.cspf_disjoint.specs.Potentials.{potentials_of}
use Rattle.cspf_disjoint.specs.Weights.{weights_of}
use Rattle.cspf_disjoint.proofs.Numbers.{number_for-index}
use Rattle.cspf_disjoint.proofs.excess.excess_of_routers.Goals as goal

pub loop-place-preserved : goal.loop-place-preserved
loop-place-preserved c =
    let d = c.args.table.now in
    let all = c.routers-routers.ensures.all in
    let rising = subst IsStrictlyIncreasing c.routers-routers.ensures.all c.routers-routers.ensures.rising in
    let router = c.index-routers-place.result in
    let within : c.loop-place.place < length (router_list c.args.table.now) = omega (arith, c.loop-place-test.true, ap (λ (rs : List ℕ). length rs) all) in
    let is : slice_index (router_list c.args.table.now) c.loop-place.place ≡ c.index-routers-place.result =
    sym
    (c.index-routers-place.is ∙ ap (λ rs. slice_index_or rs c.loop-place.place c.index-routers-place.result) all
    ∙ get_or_default (router_list c.args.table.now) c.loop-place.place c.index-routers-place.result 0 within) in
    let at : IsIndexOf c.args.table.now c.index-routers-place.result c.loop-place.place = record { within = within; is = is } in
    let arrives = number_for-index d rising c.args.lists.arriving.now router c.loop-place.place at in
    let leaves = number_for-index d rising c.args.lists.leaving.now router c.loop-place.place at in
    let f = router_excess (potentials_of c.args.table.now c.args.lists) (weights_of c.args.rule.now) in
    let next = sum_by_more f (router_list c.args.table.now) c.loop-place.place 0 within in
    let here = ap f is in
    record {
      sum = omega (arith, next, here, c.loop-place.invariant.sum, c.in_ok-total.ensures.1, c.saturating_sub.ensures, c.saturating_sub-rise.ensures, c.of_router.ensures, c.number_at.ensures, c.number_at-in-loop-place.ensures, arrives, leaves);
    }
