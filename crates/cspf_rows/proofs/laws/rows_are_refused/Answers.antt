use Rattle.cspf_rows.proofs.RowRefusalLemmas.{rows_refused, refused_once}
use Rattle.cspf_rows.proofs.laws.rows_are_refused.Goals as goal

pub returns : goal.returns
returns c = record { refused = rows_refused c.texts_are_read.ensures; one = refused_once c.texts_are_read.ensures }
