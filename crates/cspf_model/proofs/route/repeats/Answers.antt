use Rattle.std.proofs.Common.{◌-◌, refl, sym, ◌∙◌, arith}
use Rattle.std.proofs.lemmas.Bool.{eqb-true, false≢true}
use Rattle.std.proofs.lemmas.List.{get_or_read}
use Rattle.cspf_model.proofs.Routes.SortedRouters.{twice_from_equal, distinct_from_increasing}
use Rattle.cspf_model.proofs.route.repeats.Goals as goal

pub returns-then-eq : goal.returns-then-eq
returns-then-eq c =
    let sorted = c.args.sorted.now in
    let at = c.loop-at.at in
    let low = get_or_read sorted (at - 1) c.index-sorted-at.result (omega arith) c.index-sorted-at.is 0 in
    let high = get_or_read sorted at c.index-sorted-at-in-loop-at.result (omega arith) c.index-sorted-at-in-loop-at.is 0 in
    let equal = eqb-true c.index-sorted-at.result c.index-sorted-at-in-loop-at.result (sym c.eq.ensures ∙ c.if-eq.true) in
    (λ _ all. twice_from_equal sorted (at - 1) at 0 (omega arith) (omega arith) (sym low ∙ equal ∙ high) all, λ _. refl)

pub returns : goal.returns
returns c = (
  λ t. absurd (false≢true t),
  λ twice. absurd (twice (distinct_from_increasing c.args.sorted.now (λ k d h. c.loop-at.invariant k d (omega arith)))),
)
