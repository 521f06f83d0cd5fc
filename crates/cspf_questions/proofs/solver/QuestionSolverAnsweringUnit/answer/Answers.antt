use Rattle.std.proofs.Common.{subst}
use Rattle.std.proofs.lemmas.Result.{IfOk-weaker}
use Rattle.cspf_questions.specs.declared.reading.ReadFields.{ReadFields}
use Rattle.cspf_questions.specs.QuestionStates.{IsReadTaken}
use Rattle.cspf_questions.proofs.solver.QuestionSolverAnsweringUnit.answer.Goals as goal

pub returns-clause-answered : goal.returns-clause-answered
returns-clause-answered c =
    IfOk-weaker c.take.result _ _
    (λ line taken. subst (λ (r : ReadFields). IsReadTaken c.args.self.now r line.items c.take.new.self) c.in_ok-read.ensures taken)
    c.take.ensures.taken
