use Rattle.cspf_model.proofs.Databases.FoundLinks.{link_at-row, link_at-no_row}
use Rattle.cspf_columns.proofs.RowOrder.{own_keys}
use Rattle.cspf_db.proofs.table.Table.find.Goals as goal

pub returns-in_err-at : goal.returns-in_err-at
returns-in_err-at c =
    rw (c.from_residual.ensures, ← c.self.view_is, link_at-no_row _ _ (rw c.deref.ensures.value at c.in_err-at.ensures.none))

pub returns : goal.returns
returns c =
    let at = rw c.deref.ensures.value at c.in_ok-at.ensures in
    rw (← c.self.view_is, link_at-row _ (own_keys _ c.self.invariant.columns.parts.by_key) _ c.in_ok-at.at c.index.result.now at.bound (at.some _), ← c.index.ensures)
