use Rattle.std.proofs.Common.{◌+◌, refl, ap}
use Rattle.cspf_stream.proofs.RowSteps.{at_error}
use Rattle.cspf_stream.proofs.rows.Rows.answer.Goals as goal

pub returns-in_err-line-in-Err-clause-failed : goal.returns-in_err-line-in-Err-clause-failed
returns-in_err-line-in-Err-clause-failed g c = at_error _ c.from_residual.result (λ s kept. (s, kept, rw c.in-Err.is refl))

pub returns-in-Ok-clause-answered : goal.returns-in-Ok-clause-answered
returns-in-Ok-clause-answered g c = rw c.in-Ok.is (rw c.of.ensures at c.take.ensures.answered)

pub returns-in-Ok-clause-failed : goal.returns-in-Ok-clause-failed
returns-in-Ok-clause-failed g c = rw c.in-Ok.is (rw c.of.ensures at c.take.ensures.failed)

pub returns-in_ok-line-in-Err-clause-answered : goal.returns-in_ok-line-in-Err-clause-answered
returns-in_ok-line-in-Err-clause-answered g c = λ s kept. (
  record s { refused = s.refused + 1 },
  record { sink = kept.sink; changes = kept.changes; answers = kept.answers; refused = ap (λ n. n + 1) kept.refused },
  rw c.in-Err.is (c.in_ok-line-in-Err.ensures, refl),
)
