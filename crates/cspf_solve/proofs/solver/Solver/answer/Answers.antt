use Rattle.std.proofs.Common.{◌+◌, refl}
use Rattle.std.proofs.lemmas.Result.{IfOk-weaker}
use Rattle.cspf_solve.specs.declared.solver.Solver.{Solver}
use Rattle.cspf_solve.proofs.SolverSteps.{run_row}
use Rattle.cspf_solve.proofs.solver.Solver.answer.Goals as goal

pub returns-clause-answered : goal.returns-clause-answered
returns-clause-answered c =
    let new : Solver = record { rows = c.answer.new.self; read = c.args.self.now.read + 1 } in
    IfOk-weaker c.answer.result _ _
    (λ line lead. run_row c.absorbing.ensures c.one_refusal.ensures.unfit c.args.self.now new c.args.row.now line.items refl lead)
    c.answer.ensures.answered
