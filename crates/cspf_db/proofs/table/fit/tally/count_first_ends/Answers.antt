use Rattle.cspf_db.proofs.Tables.GoneRouters.{brings_beside}
use Rattle.cspf_db.proofs.table.fit.tally.count_first_ends.Goals as goal

pub returns-in-Put-clause-most : goal.returns-in-Put-clause-most
returns-in-Put-clause-most c =
    rw c.in-Put.is
    (brings_beside c.args.routers.now c.args.others.now c.in-Put.link c.count_first.result c.count_first-in-Put.result c.count_first.ensures.none c.count_first-in-Put.ensures.none)
