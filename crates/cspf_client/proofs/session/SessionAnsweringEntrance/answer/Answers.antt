use Rattle.std.proofs.Common.{refl, inl, inr, subst}
use Rattle.std.proofs.lemmas.Result.{IfOk-weaker, IfErr-weaker}
use Rattle.cspf_questions.specs.declared.reading.ReadFields.{ReadFields}
use Rattle.cspf_client.specs.ClientRows.{IsReadAnswered, IsReadUnanswered}
use Rattle.cspf_client.proofs.session.SessionAnsweringEntrance.answer.Goals as goal

pub returns-clause-answered : goal.returns-clause-answered
returns-clause-answered g c =
    IfOk-weaker c.answer_fields.result _ _
    (λ line is. subst (λ (r : ReadFields). IsReadAnswered c.args.place c.args.self.now r line.items c.answer_fields.new.self) c.in-Ok.ensures.read is)
    c.answer_fields.ensures.answered

pub returns-clause-failed : goal.returns-clause-failed
returns-clause-failed g c =
    IfErr-weaker c.answer_fields.result _ _
    (λ fault is. inl (subst (λ (r : ReadFields). IsReadUnanswered fault c.args.place c.args.self.now r c.answer_fields.new.self) c.in-Ok.ensures.read is))
    c.answer_fields.ensures.failed

pub returns-in-Err-clause-failed : goal.returns-in-Err-clause-failed
returns-in-Err-clause-failed g c = inr (c.in-Err.ensures.memory, refl)
