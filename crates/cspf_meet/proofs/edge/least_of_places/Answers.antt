use Rattle.std.proofs.Common.{◌≤◌, ℕ, slice_index_or, subst, arith}
use Rattle.std.specs.List.{All}
use Rattle.std.proofs.lemmas.List.{get_or_default, take_all}
use Rattle.cspf_meet.specs.Labels.{rank_at}
use Rattle.cspf_meet.proofs.Falling.{one_more}
use Rattle.cspf_meet.proofs.edge.least_of_places.Goals as goal

pub loop-place-preserved : goal.loop-place-preserved
loop-place-preserved c =
    let places = c.args.places.now in
    let k = c.loop-place.place-index in
    let low : (y : ℕ) → c.loop-place.least ≤ rank_at c.args.ranks.now y → c.min-least.result ≤ rank_at c.args.ranks.now y = λ y h. omega (arith, h, c.min-least.ensures) in
    record {
      least = one_more (λ place. c.loop-place.least ≤ rank_at c.args.ranks.now place) (λ place. c.min-least.result ≤ rank_at c.args.ranks.now place) places k (slice_index_or c.args.places.now c.loop-place.place-index 0)
          c.loop-place-test.true (get_or_default places k 0 (slice_index_or c.args.places.now c.loop-place.place-index 0) c.loop-place-test.true) low c.loop-place.invariant.least (omega (arith, c.min-least.ensures, c.rank_of.ensures));
      small = omega (arith, c.loop-place.invariant.small, c.min-least.ensures);
    }

pub returns-clause-least : goal.returns-clause-least
returns-clause-least c =
    subst (All (λ place. c.loop-place.least ≤ rank_at c.args.ranks.now place)) (take_all c.loop-place.place-index c.args.places.now c.loop-place-test.false) c.loop-place.invariant.least
