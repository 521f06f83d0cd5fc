use Rattle.cspf_model.proofs.Networks.Reverses.{may_be_admitted, one_way, other_remote, other_local, other_to, other_from, with_reverse}
use Rattle.cspf_model.proofs.laws.network_laws.worked_reverses.Goals as goal

pub returns : goal.returns
returns c = assumption (may_be_admitted, one_way, other_remote, other_local, other_to, other_from, with_reverse)
