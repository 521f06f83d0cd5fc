use Rattle.cspf_db.proofs.Tables.TransitColumn.{transit_at}
use Rattle.cspf_db.proofs.table.Table.transit_at.Goals as goal

pub returns : goal.returns
returns c =
    transit_at c.args.self.now c.self.inside.columns.rows.items c.self.inside.marks.items c.self.inside.columns.routers.items c.self.inside.transits.items c.args.at c.index.result.now c.self.view_is c.self.invariant.listed
    c.self.invariant.transits c.requires c.index.ensures
