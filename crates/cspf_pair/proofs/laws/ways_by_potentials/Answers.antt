use Rattle.cspf_pair.proofs.Ways.{ways_by_excess}
use Rattle.cspf_pair.proofs.laws.ways_by_potentials.Goals as goal

pub returns : goal.returns
returns c = ways_by_excess
