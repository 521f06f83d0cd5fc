use Rattle.std.proofs.Common.{remove, sym, ap, subst}
use Rattle.cspf_book.specs.declared.placement.Placement.{Placement}
use Rattle.cspf_book.specs.Alike.{IsCurrentBut}
use Rattle.cspf_book.specs.Kept.{HasMoreAlong}
use Rattle.cspf_book.proofs.Currents.{alike_current, current_back}
use Rattle.cspf_book.proofs.KeptSums.{count_with}
use Rattle.cspf_book.proofs.moves.Held.set_back.Goals as goal

pub refresh-requires-clause-alike : goal.refresh-requires-clause-alike
refresh-requires-clause-alike c = alike_current c.args.base.now (remove c.args.placements.now c.args.at) c.args.self.now.effective c.requires.current

pub returns-then-at-placements-clause-current : goal.returns-then-at-placements-clause-current
returns-then-at-placements-clause-current c =
    let ps = c.args.placements.now in
    let p = c.index-placements-at.result in
    let is = c.index-placements-at.is in
    let more = subst (λ (q : Placement). HasMoreAlong c.args.self.now.counts c.add.new.self q.route q.hold q.request.bandwidth) is c.add.ensures.sums in
    c.refresh.ensures.current ps
    (count_with c.args.self.now.counts c.add.new.self ps c.args.at p c.if-at-placements.true c.requires.counted more)
    (subst (IsCurrentBut c.args.base.now ps c.args.self.now.effective) (sym (ap (λ (q : Placement). q.route) is))
    (current_back c.args.base.now ps c.args.at p c.args.self.now.effective c.within_limits.ensures.keyed c.if-at-placements.true c.requires.current))
