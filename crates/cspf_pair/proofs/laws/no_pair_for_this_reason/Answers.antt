use Rattle.cspf_pair.proofs.Reasons.{no_pair_by_link, no_pair_by_router}
use Rattle.cspf_pair.proofs.laws.no_pair_for_this_reason.Goals as goal

pub returns : goal.returns
returns c = record { link = no_pair_by_link; router = no_pair_by_router }
