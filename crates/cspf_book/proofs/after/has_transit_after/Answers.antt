use Rattle.cspf_book.proofs.ChangedBases.{transit_by_last, transit_by_none}
use Rattle.cspf_book.proofs.after.has_transit_after.Goals as goal

pub returns-in-Some : goal.returns-in-Some
returns-in-Some c =
    rw c.mark_left.ensures (transit_by_last c.args.base.now c.args.changes.now c.args.router c.in-Some.change.now c.in-Some.ensures)

pub returns-in-None : goal.returns-in-None
returns-in-None c =
    let both = transit_by_none c.args.base.now c.args.changes.now c.args.router c.in-None.ensures in
    (λ yes. both.0 (c.transit.ensures.0 yes), λ free. c.transit.ensures.1 (both.1 free))
