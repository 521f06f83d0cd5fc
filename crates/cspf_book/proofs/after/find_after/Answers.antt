use Rattle.cspf_book.proofs.ChangedBases.{link_by_last, link_by_none, keyed_by_last, keyed_by_base}
use Rattle.cspf_book.proofs.after.find_after.Goals as goal

pub returns-in-Some-clause-found : goal.returns-in-Some-clause-found
returns-in-Some-clause-found c =
    rw c.link_left.ensures (link_by_last c.args.base.now c.args.changes.now (c.args.from, c.args.local) c.in-Some.change.now c.in-Some.ensures)

pub returns-in-Some-clause-keyed : goal.returns-in-Some-clause-keyed
returns-in-Some-clause-keyed c =
    rw c.link_left.ensures (keyed_by_last c.args.changes.now (c.args.from, c.args.local) c.in-Some.change.now c.in-Some.ensures)

pub returns-in-None-clause-found : goal.returns-in-None-clause-found
returns-in-None-clause-found c =
    rw c.find.ensures (link_by_none c.args.base.now c.args.changes.now (c.args.from, c.args.local) c.in-None.ensures)

pub returns-in-None-clause-keyed : goal.returns-in-None-clause-keyed
returns-in-None-clause-keyed c =
    keyed_by_base c.args.base.now (c.args.from, c.args.local) c.find.result c.within_limits.ensures.keyed c.find.ensures
