use Rattle.std.proofs.Common.{ap, subst, sym}
use Rattle.std.proofs.lemmas.Result.{IfOk-weaker, IfErr-weaker}
use Rattle.cspf_publish.specs.AskerStates.{known_of}
use Rattle.cspf_client.specs.ClientRows.{IsQuestionAnswered, IsQuestionUnanswered, IsRequestUnanswered}
use Rattle.cspf_client.specs.SessionStates.{SessionState}
use Rattle.cspf_client.specs.ErrorNames.{fault_of_answer}
use Rattle.cspf_client.specs.declared.error.RowFault.{RowFault}
use Rattle.cspf_client.proofs.Requests.{session, question_answered, question_unanswered, unanswered}
use Rattle.cspf_client.proofs.session.Session.question.Goals as goal

pub returns-clause-answered : goal.returns-clause-answered
returns-clause-answered c =
    let after = session c.self.inside.client (known_of c.table.new.self) c.catch_up-read.new.steps c.self.inside.refused in
    IfOk-weaker c.question_line.result _ _
    (λ line reply. subst (λ (s : SessionState). IsQuestionAnswered c.args.place c.args.question.now s line.items after) c.self.view_is
    (question_answered c.self.inside.client c.args.place (known_of c.self.inside.asker) (known_of c.catch_up-read.new.self) (known_of c.table.new.self) c.self.inside.steps c.catch_up-read.new.steps c.catch_up-read.result c.self.inside.refused c.catch_up-read.ensures.caught_up c.table.ensures.source c.table.ensures.later
    c.args.question.now c.in-Ok.table c.seen.result line.items c.in-Ok.ensures.table c.seen.ensures.version reply))
    c.question_line.ensures.line

pub returns-clause-failed : goal.returns-clause-failed
returns-clause-failed c =
    let after = session c.self.inside.client (known_of c.table.new.self) c.catch_up-read.new.steps c.self.inside.refused in
    IfErr-weaker c.question_line.result _ _
    (λ fault is. subst (λ (f : RowFault). IsQuestionUnanswered c.args.place c.args.question.now f c.args.self.now after) (sym is.2)
    (subst (λ (s : SessionState). IsQuestionUnanswered c.args.place c.args.question.now (fault_of_answer is.0) s after) c.self.view_is
    (question_unanswered c.self.inside.client c.args.place (known_of c.self.inside.asker) (known_of c.catch_up-read.new.self) (known_of c.table.new.self) c.self.inside.steps c.catch_up-read.new.steps c.catch_up-read.result c.self.inside.refused c.catch_up-read.ensures.caught_up c.table.ensures.source c.table.ensures.later c.args.question.now is.0 is.1)))
    c.question_line.ensures.fault

pub returns-in-Err-clause-failed : goal.returns-in-Err-clause-failed
returns-in-Err-clause-failed c =
    let after = session c.self.inside.client (known_of c.table.new.self) c.catch_up-read.new.steps c.self.inside.refused in
    subst (λ (s : SessionState). IsRequestUnanswered c.args.place c.in-Err.why s after) c.self.view_is
    (unanswered c.self.inside.client c.args.place (known_of c.self.inside.asker) (known_of c.catch_up-read.new.self) (known_of c.table.new.self) c.self.inside.steps c.catch_up-read.new.steps c.catch_up-read.result c.self.inside.refused c.catch_up-read.ensures.caught_up c.table.ensures.source c.table.ensures.later
    c.in-Err.why (λ e. ap known_of (c.in-Err.ensures.no_entry e)))
