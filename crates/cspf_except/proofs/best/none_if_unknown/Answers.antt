use Rattle.std.proofs.Common.{subst}
use Rattle.cspf_model.specs.Best.{IsBestAnswer}
use Rattle.cspf_model.specs.Outcome.{answer_of}
use Rattle.cspf_except.proofs.BestAnswers.{none_from, none_to}
use Rattle.cspf_except.proofs.best.none_if_unknown.Goals as goal

pub returns-in-UnknownFrom : goal.returns-in-UnknownFrom
returns-in-UnknownFrom c d q is = none_from d q (subst (λ o. IsBestAnswer d q (answer_of o)) c.in-UnknownFrom.is is)

pub returns-in-UnknownTo : goal.returns-in-UnknownTo
returns-in-UnknownTo c d q is = none_to d q (subst (λ o. IsBestAnswer d q (answer_of o)) c.in-UnknownTo.is is)
