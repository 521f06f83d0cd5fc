use Rattle.std.proofs.Common.{ap, sym}
use Rattle.cspf_model.specs.Changes.{key_changed}
use Rattle.cspf_model.proofs.Databases.FoundLinks.{tells_removal}
use Rattle.cspf_db.proofs.Tables.SeenRows.{row_with_key}
use Rattle.cspf_db.proofs.table.fit.tally.tally_one.Goals as goal

pub returns-then-is_none-clause-absent : goal.returns-then-is_none-clause-absent
returns-then-is_none-clause-absent c =
    let place = row_with_key _ _ (c.in-Remove.from, c.in-Remove.local) _ (sym (ap key_changed c.in-Remove.is)) c.requires.row in
    rw c.in-Remove.is
    ((tells_removal c.args.columns.now.rows.items (c.in-Remove.from, c.in-Remove.local) c.args.row c.is_none.result c.is_none.ensures place.bound place.some place.none).0 c.if-is_none.true)

pub returns-else-is_none-clause-present : goal.returns-else-is_none-clause-present
returns-else-is_none-clause-present c =
    let place = row_with_key _ _ (c.in-Remove.from, c.in-Remove.local) _ (sym (ap key_changed c.in-Remove.is)) c.requires.row in
    rw c.in-Remove.is
    ((tells_removal c.args.columns.now.rows.items (c.in-Remove.from, c.in-Remove.local) c.args.row c.is_none.result c.is_none.ensures place.bound place.some place.none).1 c.if-is_none.false)
