use Rattle.cspf_db.proofs.Tables.MarkChanges.{tells_mark}
use Rattle.cspf_db.proofs.table.marks.is_marked.Goals as goal

pub returns : goal.returns
returns c =
    let found = c.search.ensures in
    tells_mark c.args.marks.now c.args.router c.search.result c.is_ok.result c.is_ok.ensures.value found.within found.found found.gap
