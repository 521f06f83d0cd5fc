use Rattle.cspf_rows.proofs.RowsRead.{rows_opened}
use Rattle.cspf_rows.proofs.records.open_records.Goals as goal

pub returns-clause-rows : goal.returns-clause-rows
returns-clause-rows g c = rows_opened g.R.Read.remaining c.from_reader.result (g.R.Read.remaining c.args.reader) c.from_reader.ensures.state c.from_reader.ensures.source
