use Rattle.std.proofs.Common.{[], ◌∷◌, ◌++◌, map, ap, ◌∙◌, arith}
use Rattle.std.proofs.lemmas.List.{take_all}
use Rattle.cspf_book.specs.Leading.{effective_change}
use Rattle.cspf_book.proofs.ListedPuts.{mapped_more}
use Rattle.cspf_book.proofs.leading.base_batch.Goals as goal

pub loop-change-preserved : goal.loop-change-preserved
loop-change-preserved c =
    λ placements kept.
    let item = c.change-item.result in
    c.in_ok-push.ensures.items
    ∙ (λ i. c.loop-change.invariant placements kept i ++ c.effective_change.ensures placements kept i ∷ [])
    ∙ mapped_more (effective_change placements) c.args.changes.now c.loop-change.change-index item c.loop-change-test.true c.change-item.is

pub returns : goal.returns
returns c =
    λ placements kept.
    ap (λ cs. record { number = c.args.number; changes = cs })
    (c.loop-change.invariant placements kept ∙ ap (map (effective_change placements)) (take_all c.loop-change.change-index c.args.changes.now (omega arith)))
