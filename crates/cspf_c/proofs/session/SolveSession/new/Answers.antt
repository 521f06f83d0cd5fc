use Rattle.std.proofs.Common.{refl, false}
use Rattle.cspf_c.proofs.Steps.{none_given}
use Rattle.cspf_c.proofs.session.SolveSession.new.Goals as goal

pub returns : goal.returns
returns c = none_given (record { solver = c.in_ok-new.field-0; answered = 0; too_many = false }) c.in_ok-new.ensures.start refl refl
