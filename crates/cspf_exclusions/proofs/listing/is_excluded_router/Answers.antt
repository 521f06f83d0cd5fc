use Rattle.std.proofs.Common.{subst}
use Rattle.std.specs.List.{All}
use Rattle.std.proofs.lemmas.List.{take_all}
use Rattle.std.proofs.lemmas.List.Elements.{All-more}
use Rattle.cspf_exclusions.specs.Exclusions.{NamesRouter}
use Rattle.cspf_exclusions.specs.declared.exclusion.Exclusion.{Exclusion}
use Rattle.cspf_exclusions.proofs.ListedItems.{fails_all}
use Rattle.cspf_exclusions.proofs.listing.is_excluded_router.Goals as goal

pub loop-part-preserved : goal.loop-part-preserved
loop-part-preserved c =
    let P : Exclusion → Type 0 = λ (part : Exclusion). NamesRouter c.args.table.now part c.args.router in
    let none : ¬ P c.part-item.result = λ named. let true_too = c.names_router.ensures.1 named in absurd (cc (true_too, c.if-names_router.false)) in
    All-more (λ part. ¬ P part) c.args.parts.now c.loop-part.part-index c.part-item.result c.loop-part-test.true c.loop-part.invariant
    (subst (λ part. ¬ P part) c.part-item.is none)

pub returns : goal.returns
returns c =
    let P : Exclusion → Type 0 = λ (part : Exclusion). NamesRouter c.args.table.now part c.args.router in
    let all = take_all c.loop-part.part-index c.args.parts.now c.loop-part-test.false in
    fails_all P c.args.parts.now (subst (All (λ part. ¬ P part)) all c.loop-part.invariant)
