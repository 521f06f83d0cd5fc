use Rattle.cspf_model.proofs.Routes.WalkOrder.{one_answer}
use Rattle.cspf_model.proofs.laws.one_best_answer.Goals as goal

pub returns : goal.returns
returns c = one_answer
