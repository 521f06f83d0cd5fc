use Rattle.std.proofs.lemmas.Result.{IfOk-weaker}
use Rattle.cspf_c.proofs.Steps.{ended}
use Rattle.cspf_c.proofs.session.SolveSession.last_line.Goals as goal

pub returns : goal.returns
returns c = IfOk-weaker c.last_line.result _ _ (λ line is. λ rows lines has. ended c.args.self.now.taken rows lines line.items is has) c.last_line.ensures
