use Rattle.cspf_book_run.proofs.HeldRows.{held_back, held_cut}
use Rattle.cspf_book_run.proofs.held_row.held_rows_are_read_back.Goals as goal

pub returns-clause-rows : goal.returns-clause-rows
returns-clause-rows c =
    held_back c.masks_are_spelled.ensures.read c.masks_are_spelled.ensures.back c.fields_of_links_and_requests.ensures.requests
    c.rows_are_read_back.ensures.asks c.route_texts_are_read_back.ensures

pub returns-clause-texts : goal.returns-clause-texts
returns-clause-texts c = held_cut
