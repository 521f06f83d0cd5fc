use Rattle.cspf_rows.proofs.BatchRecords.{read_back, texts_cut, journals_read_back}
use Rattle.cspf_rows.proofs.journal.laws.journals_are_read_back.Goals as goal

pub returns : goal.returns
returns c =
    let rows = c.rows_are_read_back.ensures in
    let masks = c.masks_are_spelled.ensures in
    let laws = read_back rows.puts rows.drops rows.nodes rows.ends masks.read masks.back in
    record { cut = texts_cut laws; back = journals_read_back laws }
