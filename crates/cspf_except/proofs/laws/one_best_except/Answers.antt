use Rattle.cspf_except.proofs.BestOnce.{one_best_except}
use Rattle.cspf_except.proofs.laws.one_best_except.Goals as goal

pub returns : goal.returns
returns c = one_best_except
