use Rattle.std.proofs.Common.{◌+◌, ℕ, Contains, take, sym, subst}
use Rattle.std.proofs.lemmas.List.{take_all}
use Rattle.std.proofs.lemmas.List.Elements.{All-contains}
use Rattle.std.specs.List.{All}
use Rattle.cspf_exclusions.specs.Exclusions.{IsExcludedRouter}
use Rattle.cspf_exclusions.proofs.ListedItems.{AreListed, listed_item}
use Rattle.cspf_exclusions.proofs.listing.excluded_routers.Goals as goal

pub loop-router-preserved : goal.loop-router-preserved
loop-router-preserved c =
    let xs = c.routers-all.result.now in
    let P : ℕ → Type 0 = IsExcludedRouter c.args.table.now c.args.parts.now in
    subst (AreListed P P (λ (r : ℕ). r) (take (c.loop-router.router-index + 1) xs)) (sym c.in_ok-add_if.ensures)
    (listed_item P P (λ (r : ℕ). r) xs c.loop-router.router-index c.router-item.result c.is_excluded_router-is_excluded.result c.loop-router.routers.items c.loop-router-test.true c.router-item.is
    c.is_excluded_router-is_excluded.ensures (λ p. p) c.loop-router.invariant)

pub returns : goal.returns
returns c = λ router.
    let xs = c.routers-all.result.now in
    let P : ℕ → Type 0 = IsExcludedRouter c.args.table.now c.args.parts.now in
    let out = c.loop-router.routers.items in
    let all = take_all c.loop-router.router-index xs c.loop-router-test.false in
    let whole : All (λ r. P r → Contains out r) xs = subst (All (λ r. P r → Contains out r)) all c.loop-router.invariant.whole in (
      (λ has. All-contains P out router c.loop-router.invariant.each has),
      λ is. All-contains (λ r. P r → Contains out r) xs router whole ((c.routers-all.ensures.known router).1 is.2.1.known) is,
    )
