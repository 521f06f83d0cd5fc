use Rattle.cspf_model.proofs.Databases.LastChanges.{last_decides, one_database}
use Rattle.cspf_model.proofs.laws.last_change_decides.Goals as goal

pub returns : goal.returns
returns c = record { decides = last_decides; one = one_database }
