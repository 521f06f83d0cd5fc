use Rattle.cspf_db.proofs.Tables.Reshaping.{shape_kept, shape_changed}
use Rattle.cspf_db.proofs.table.Table.changes_shape.Goals as goal

pub returns-clause-kept : goal.returns-clause-kept
returns-clause-kept c off = rw (← c.batch.view_is) (shape_kept _ _ (rw (c.any_reshapes.ensures, c.deref.ensures.value) at off))

pub returns-clause-changed : goal.returns-clause-changed
returns-clause-changed c on fits =
    rw (← c.batch.view_is) (shape_changed _ _ (rw (← c.batch.view_is) at fits.once) (rw (c.any_reshapes.ensures, c.deref.ensures.value) at on))
