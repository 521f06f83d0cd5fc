use Rattle.cspf_rows.proofs.BatchRecords.{read_back}
use Rattle.cspf_book_run.proofs.Compacts.{compacts_make_books}
use Rattle.cspf_book_run.proofs.laws.compacts_make_books.Goals as goal

pub returns : goal.returns
returns c =
    let rows = c.rows_are_read_back.ensures in
    let masks = c.masks_are_spelled.ensures in
    compacts_make_books (read_back rows.puts rows.drops rows.nodes rows.ends masks.read masks.back) c.held_rows_are_read_back.ensures.rows c.compact_is_the_book.ensures
