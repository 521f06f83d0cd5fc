use Rattle.cspf_rows.proofs.RowLaws.{rows_read, one_row}
use Rattle.cspf_rows.proofs.laws.rows_are_read.Goals as goal

pub returns : goal.returns
returns c = record { read = rows_read c.texts_are_read.ensures; one = one_row c.texts_are_read.ensures }
