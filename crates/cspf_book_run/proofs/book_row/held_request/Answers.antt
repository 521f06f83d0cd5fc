use Rattle.std.proofs.Common.{arith}
use Rattle.std.proofs.lemmas.Grind.{common_steps}
use Rattle.cspf_book_run.proofs.RowRequests.{lowest_setup}
use Rattle.cspf_book_run.proofs.book_row.held_request.Goals as goal

pub returns-in-Ask : goal.returns-in-Ask
returns-in-Ask c =
    let same = lowest_setup c.fields_of_links_and_requests.ensures.requests c.in-Ask.request c.at_lowest_setup.result c.at_lowest_setup.ensures in
    grind (arith, common_steps, same)
