use Rattle.cspf_except.proofs.BestOnce.{more_cost_no_less}
use Rattle.cspf_except.proofs.laws.more_exclusions_cost_no_less.Goals as goal

pub returns : goal.returns
returns c = more_cost_no_less
