use Rattle.cspf_judge.proofs.audits.asked.AskedRowAsks.is_answer.Goals as goal

pub returns-in-Ask : goal.returns-in-Ask
returns-in-Ask c = rw c.in-Ask.is c.is_answer.ensures

pub returns-in-Question : goal.returns-in-Question
returns-in-Question c = rw c.in-Question.is c.is_question_reply.ensures
