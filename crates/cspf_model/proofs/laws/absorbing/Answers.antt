use Rattle.cspf_model.proofs.Databases.LastChanges.{one_more_batch}
use Rattle.cspf_model.proofs.laws.absorbing.Goals as goal

pub returns : goal.returns
returns c = one_more_batch
