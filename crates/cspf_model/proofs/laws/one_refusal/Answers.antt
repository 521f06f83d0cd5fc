use Rattle.cspf_model.proofs.Batches.LeastReasons.{one_reason, refused_unfit}
use Rattle.cspf_model.proofs.laws.one_refusal.Goals as goal

pub returns-clause-one : goal.returns-clause-one
returns-clause-one c = one_reason

pub returns-clause-unfit : goal.returns-clause-unfit
returns-clause-unfit c = refused_unfit
