use Rattle.std.proofs.Common.{◌≡◌, ◌+◌, ◌<◌, ◌∙◌, ◌++◌, ◌∷◌, [], inl, inr, length, set, length-set, take, ap, sym, arith}
use Rattle.std.proofs.lemmas.List.{take_more, get_or-set_same, get_or-set_other}
use Rattle.std.proofs.lemmas.List.Elements.{Contains-push, Contains-append_left}
use Rattle.cspf_search.specs.Bounds.{bound_at}
use Rattle.cspf_search.specs.declared.limits.TheConstants.{NO_WAY}
use Rattle.cspf_graph.proofs.RouterIndexes.{same_or_not}
use Rattle.cspf_search.proofs.LegTargets.{taken_more}
use Rattle.cspf_search.proofs.bounds.shut_at.Goals as goal

pub loop-place-preserved : goal.loop-place-preserved
loop-place-preserved c =
    let before = c.loop-place.invariant in
    let places = c.args.places.now in
    let k = c.loop-place.place-index in
    let place = c.from.result in
    let at = c.args.first + place in
    let old = c.loop-place.bounds in
    let new = set old at NO_WAY in
    let within : at < length old = omega (arith, c.requires.within k 0 c.loop-place-test.true, c.from.ensures, before.many) in
    let here : bound_at new at ≡ NO_WAY = get_or-set_same old at NO_WAY 0 within in
    let more : take (k + 1) places ≡ take k places ++ place ∷ [] = take_more places k 0 c.loop-place-test.true ∙ ap (λ p. take k places ++ p ∷ []) (sym c.from.ensures) in
    record {
      many = length-set old at NO_WAY ∙ before.many;
      shut =
          taken_more (λ p. bound_at new (c.args.first + p) ≡ NO_WAY) places k place c.loop-place-test.true c.from.ensures
          (λ p has. elim (same_or_not (c.args.first + p) at) [
            | inl same ↦ ap (bound_at new) same ∙ here
            | inr ne ↦ get_or-set_other old at (c.args.first + p) NO_WAY 0 ne ∙ before.shut p has
          ])
          here;
      others = λ i.
          elim (same_or_not i at) [
            | inl same ↦ inr (place, rw more (Contains-push (take k places) place), same)
            | inr ne ↦ elim (before.others i) [
              | inl kept ↦ inl (get_or-set_other old at i NO_WAY 0 ne ∙ kept)
              | inr x ↦ inr (x.0, rw more (Contains-append_left (take k places) (place ∷ []) x.0 x.1), x.2)
            ]
          ];
    }
