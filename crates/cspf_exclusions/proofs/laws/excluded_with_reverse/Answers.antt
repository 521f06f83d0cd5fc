use Rattle.cspf_exclusions.proofs.WithoutLinks.{with_reverse}
use Rattle.cspf_exclusions.proofs.laws.excluded_with_reverse.Goals as goal

pub returns : goal.returns
returns c = with_reverse
