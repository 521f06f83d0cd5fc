use Rattle.cspf_exclusions.proofs.WithoutLinks.{walks_without}
use Rattle.cspf_exclusions.proofs.laws.walks_without_excluded_links.Goals as goal

pub returns : goal.returns
returns c = walks_without
