use Rattle.cspf_solve.proofs.OutputPrefix.{stopped_prefix}
use Rattle.cspf_solve.proofs.laws.stops_at_a_prefix.Goals as goal

pub returns : goal.returns
returns c = stopped_prefix c.one_best_answer.ensures c.one_reply_line.ensures c.one_refusal.ensures.one
