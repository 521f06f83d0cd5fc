use Rattle.cspf_exclusions.proofs.WithoutLinks.{one_without}
use Rattle.cspf_exclusions.proofs.laws.one_database_without.Goals as goal

pub returns : goal.returns
returns c = one_without
