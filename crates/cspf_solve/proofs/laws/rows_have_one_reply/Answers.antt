use Rattle.cspf_solve.proofs.OneReply.{run_once}
use Rattle.cspf_solve.proofs.laws.rows_have_one_reply.Goals as goal

pub returns : goal.returns
returns c = run_once c.one_best_answer.ensures c.one_reply_line.ensures c.one_refusal.ensures.one
