use Rattle.std.proofs.Common.{remove, sym, ap, subst, ◌∙◌}
use Rattle.cspf_book.specs.declared.placement.Placement.{Placement}
use Rattle.cspf_book.specs.Effective.{effective}
use Rattle.cspf_book.specs.Alike.{IsCurrentBut}
use Rattle.cspf_book.specs.Kept.{HasMoreAlong}
use Rattle.cspf_book.proofs.Currents.{alike_current, current_aside}
use Rattle.cspf_book.proofs.Ids.{remove-behind}
use Rattle.cspf_book.proofs.KeptSums.{count_without}
use Rattle.cspf_book.proofs.moves.Held.set_aside.Goals as goal

pub refresh-requires-clause-alike : goal.refresh-requires-clause-alike
refresh-requires-clause-alike c = alike_current c.args.base.now c.args.placements.now c.args.self.now.effective c.requires.current

pub returns-then-at-placements-clause-current : goal.returns-then-at-placements-clause-current
returns-then-at-placements-clause-current c =
    let ps = c.args.placements.now in
    let p = c.index-placements-at.result in
    let is = c.index-placements-at.is in
    let less = subst (λ (q : Placement). HasMoreAlong c.take.new.self c.args.self.now.counts q.route q.hold q.request.bandwidth) is c.take.ensures.sums in
    c.refresh.ensures.current (remove ps c.args.at)
    (count_without c.args.self.now.counts c.take.new.self ps c.args.at p c.if-at-placements.true c.requires.counted less)
    (subst (IsCurrentBut c.args.base.now (remove ps c.args.at) c.args.self.now.effective) (sym (ap (λ (q : Placement). q.route) is))
    (current_aside c.args.base.now ps c.args.at p c.args.self.now.effective c.within_limits.ensures.keyed c.if-at-placements.true c.requires.current))

pub returns-else-at-placements-clause-current : goal.returns-else-at-placements-clause-current
returns-else-at-placements-clause-current c =
    c.requires.current ∙ ap (effective c.args.base.now) (sym (remove-behind c.args.placements.now c.args.at c.if-at-placements.false))
