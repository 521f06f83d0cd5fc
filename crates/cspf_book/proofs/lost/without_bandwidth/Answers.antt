use Rattle.cspf_book.proofs.RouteWalks.{same_request}
use Rattle.cspf_book.proofs.lost.without_bandwidth.Goals as goal

pub returns : goal.returns
returns c = same_request c.args.request.now _ _
