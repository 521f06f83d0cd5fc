use Rattle.cspf_judge.proofs.Fronts.{cut_front}
use Rattle.cspf_judge.proofs.output.put.Goals as goal

pub returns-in-Err-clause-front : goal.returns-in-Err-clause-front
returns-in-Err-clause-front g c = cut_front _ _ _ _ c.in-Err.ensures.front
