use Rattle.std.proofs.Common.{inr}
use Rattle.std.proofs.lemmas.Result.{IfErr-weaker}
use Rattle.cspf_work.proofs.collecting.take_over.Goals as goal

pub returns-clause-error : goal.returns-clause-error
returns-clause-error c = IfErr-weaker c.put_list.result _ _ (λ e twice done is. inr (twice done is)) c.put_list.ensures.error
