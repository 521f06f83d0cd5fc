use Rattle.cspf_model.proofs.Networks.UnknownEnds.{both_unknown, head_end_unknown, tail_end_unknown}
use Rattle.cspf_model.proofs.laws.network_laws.worked_unknown_ends.Goals as goal

pub returns : goal.returns
returns c = record { both = both_unknown; head_end = head_end_unknown; tail_end = tail_end_unknown }
