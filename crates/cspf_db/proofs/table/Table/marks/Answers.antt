use Rattle.cspf_columns.proofs.RouterLists.{increasing}
use Rattle.cspf_db.proofs.table.Table.marks.Goals as goal

pub returns-clause-rising : goal.returns-clause-rising
returns-clause-rising c = rw (c.as_slice.ensures.value) (increasing _ c.self.invariant.marks.rising)
