use Rattle.std.proofs.Common.{refl, sym, subst}
use Rattle.std.proofs.lemmas.Result.{IfOk-weaker}
use Rattle.cspf_questions.specs.declared.reading.ReadFields.{ReadFields}
use Rattle.cspf_solve.specs.Script.{after_refused_row, after_reply, at_next_row}
use Rattle.cspf_questions.specs.QuestionStates.{IsReadTaken}
use Rattle.cspf_questions.proofs.QuestionRuns.{both_of}
use Rattle.cspf_questions.proofs.solver.QuestionSolver.take.Goals as goal

pub returns-in-Row-clause-taken : goal.returns-in-Row-clause-taken
returns-in-Row-clause-taken c =
    IfOk-weaker c.answer_row.result _ _
    (λ line led. subst (λ (r : ReadFields). IsReadTaken c.args.self.now r line.items c.answer_row.new.self) (sym c.in-Row.is)
    (record { lead = led; counts = c.answer_row.ensures.counts; kinds = c.answer_row.ensures.kinds }))
    c.answer_row.ensures.answered

pub returns-in-Question-clause-taken : goal.returns-in-Question-clause-taken
returns-in-Question-clause-taken c =
    both_of c.question.result _ _ _ (λ line reply state. subst (λ (r : ReadFields). IsReadTaken c.args.self.now r line.items c.question.new.self) (sym c.in-Question.is)
    (record {
      lead = λ s kept. (after_reply (at_next_row s), state s kept, (reply s kept, refl));
      counts = c.question.ensures.counts;
      kinds = c.question.ensures.kinds;
    }))
    c.question.ensures.reply c.question.ensures.state

pub returns-in-Refused-clause-taken : goal.returns-in-Refused-clause-taken
returns-in-Refused-clause-taken c =
    both_of c.refuse.result _ _ _ (λ line text state. subst (λ (r : ReadFields). IsReadTaken c.args.self.now r line.items c.refuse.new.self) (sym c.in-Refused.is)
    (record {
      lead = λ s kept. (after_refused_row (at_next_row s), state s kept, (text s kept, refl));
      counts = c.refuse.ensures.counts;
      kinds = c.refuse.ensures.kinds;
    }))
    c.refuse.ensures.line c.refuse.ensures.state
