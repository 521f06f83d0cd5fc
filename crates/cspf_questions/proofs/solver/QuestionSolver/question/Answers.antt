use Rattle.std.proofs.Common.{◌≡◌, ℕ, ◌∙◌, subst}
use Rattle.cspf_model.specs.Database.{Database}
use Rattle.cspf_questions.specs.QuestionLines.{IsQuestionReply}
use Rattle.cspf_solve.specs.Script.{current_database, current_version}
use Rattle.cspf_questions.proofs.solver.QuestionSolver.question.Goals as goal

pub returns-clause-reply : goal.returns-clause-reply
returns-clause-reply c = λ s kept.
    let table : c.table.result.now ≡ current_database s = c.table.ensures ∙ kept.table in
    let version : c.version-version.result ≡ current_version s = c.version-version.ensures ∙ kept.version in
    subst (λ (d : Database). IsQuestionReply d (current_version s) c.args.question.now c.in_ok-line.line.items) table
    (subst (λ (v : ℕ). IsQuestionReply c.table.result.now v c.args.question.now c.in_ok-line.line.items) version c.in_ok-line.ensures)
