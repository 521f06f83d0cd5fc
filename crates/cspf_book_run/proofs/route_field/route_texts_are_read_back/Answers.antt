use Rattle.cspf_book_run.proofs.RouteTexts.{route_texts_back}
use Rattle.cspf_book_run.proofs.route_field.route_texts_are_read_back.Goals as goal

pub returns : goal.returns
returns c = route_texts_back
