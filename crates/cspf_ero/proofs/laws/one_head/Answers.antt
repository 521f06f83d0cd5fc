use Rattle.cspf_ero.proofs.HeadReading.{one_head}
use Rattle.cspf_ero.proofs.laws.one_head.Goals as goal

pub returns : goal.returns
returns c = one_head
