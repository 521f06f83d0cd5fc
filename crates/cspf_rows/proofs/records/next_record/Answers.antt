use Rattle.csv.specs.Records.{fields_of}
use Rattle.cspf_rows.proofs.RowsRead.{takes_read}
use Rattle.cspf_rows.proofs.records.next_record.Goals as goal

pub returns-clause-row : goal.returns-clause-row
returns-clause-row g c =
    takes_read g.R.Read.remaining c.args.rows.now c.read_byte_record.new.self c.in_ok-read_byte_record.field-0 (fields_of c.read_byte_record.new.row)
    c.requires.config (c.in_ok-read_byte_record.ensures.reads c.requires.trim c.requires.ready)
