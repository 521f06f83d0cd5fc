use Rattle.csv.specs.Records.{fields_of}
use Rattle.cspf_rows.specs.FieldValues.{field}
use Rattle.cspf_book_run.specs.BookRows.{held_route_of}
use Rattle.cspf_book_run.proofs.RowRequests.{held_is, lowest_setup}
use Rattle.cspf_book_run.proofs.book_row.BookRow.held_as.Goals as goal

pub returns-in-Ok : goal.returns-in-Ok
returns-in-Ok c =
    held_is c.args.request.now c.at_lowest_setup.result c.in-Ok.route _ (held_route_of c.args.request.now (field (fields_of c.args.fields.now) 11)) (rw c.in-Ok.is at c.in_ok-route.ensures)
    (lowest_setup c.fields_of_links_and_requests.ensures.requests c.args.request.now c.at_lowest_setup.result c.at_lowest_setup.ensures)
