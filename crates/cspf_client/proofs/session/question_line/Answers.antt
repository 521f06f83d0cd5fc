use Rattle.cspf_client.proofs.session.question_line.Goals as goal

pub returns-in-Err-clause-fault : goal.returns-in-Err-clause-fault
returns-in-Err-clause-fault c = (c.in-Err.why, c.in-Err.ensures.fault, c.of.ensures)
