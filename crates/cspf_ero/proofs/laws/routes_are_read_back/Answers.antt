use Rattle.cspf_ero.proofs.RoutesRead.{routes_read_back}
use Rattle.cspf_ero.proofs.laws.routes_are_read_back.Goals as goal

pub returns : goal.returns
returns c = routes_read_back
