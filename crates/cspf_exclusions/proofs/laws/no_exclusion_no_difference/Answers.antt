use Rattle.cspf_exclusions.proofs.WithoutLinks.{no_difference}
use Rattle.cspf_exclusions.proofs.laws.no_exclusion_no_difference.Goals as goal

pub returns : goal.returns
returns c = no_difference
