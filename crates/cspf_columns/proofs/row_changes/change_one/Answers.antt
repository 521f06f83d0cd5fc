use Rattle.std.proofs.Common.{refl, arith}
use Rattle.cspf_model.proofs.Databases.FoundLinks.{link_at-no_row}
use Rattle.cspf_model.proofs.Databases.OneChange.{relinked-absent}
use Rattle.cspf_columns.proofs.row_changes.change_one.Goals as goal

pub returns-in-Some : goal.returns-in-Some
returns-in-Some c =
    let found = rw c.deref-in-Remove.ensures.value at c.in-Some.ensures.some in rw c.in-Remove.is (c.remove_at.ensures _ _ found)

pub returns-in_default : goal.returns-in_default
returns-in_default c =
    let none = rw c.deref-in-Remove.ensures.value at c.in_default.ensures.none in
    rw c.in-Remove.is (record { changed = relinked-absent _ _ _ (link_at-no_row _ _ none); paired = c.requires.paired; longer = omega arith; routers = refl })
