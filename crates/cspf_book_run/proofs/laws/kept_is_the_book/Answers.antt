use Rattle.cspf_rows.proofs.BatchRecords.{read_back}
use Rattle.cspf_book_run.proofs.KeptBehind.{kept_behind, kept_is_book}
use Rattle.cspf_book_run.proofs.StoppedRuns.{kept_run_is_book}
use Rattle.cspf_book_run.proofs.laws.kept_is_the_book.Goals as goal

pub returns-clause-behind : goal.returns-clause-behind
returns-clause-behind c =
    let rows = c.rows_are_read_back.ensures in
    let masks = c.masks_are_spelled.ensures in
    kept_behind c.rows_are_read.ensures.read (read_back rows.puts rows.drops rows.nodes rows.ends masks.read masks.back)

pub returns-clause-whole : goal.returns-clause-whole
returns-clause-whole c =
    let rows = c.rows_are_read_back.ensures in
    let masks = c.masks_are_spelled.ensures in
    kept_is_book (kept_behind c.rows_are_read.ensures.read (read_back rows.puts rows.drops rows.nodes rows.ends masks.read masks.back))

pub returns-clause-run : goal.returns-clause-run
returns-clause-run c =
    let rows = c.rows_are_read_back.ensures in
    let masks = c.masks_are_spelled.ensures in
    kept_run_is_book (kept_is_book (kept_behind c.rows_are_read.ensures.read (read_back rows.puts rows.drops rows.nodes rows.ends masks.read masks.back)))
