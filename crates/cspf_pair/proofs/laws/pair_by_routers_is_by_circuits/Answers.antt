use Rattle.cspf_pair.proofs.Reasons.{pairs_by_circuits}
use Rattle.cspf_pair.proofs.laws.pair_by_routers_is_by_circuits.Goals as goal

pub returns : goal.returns
returns c = pairs_by_circuits
