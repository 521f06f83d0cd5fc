use Rattle.cspf_snapshot.proofs.OneSnapshot.{one_snapshot}
use Rattle.cspf_snapshot.proofs.laws.one_snapshot.Goals as goal

pub returns : goal.returns
returns c = one_snapshot
