use Rattle.std.proofs.Common.{◌+◌, [], ◌∷◌, ◌++◌, refl, ap, ◌∙◌}
use Rattle.cspf_stream.proofs.RowSteps.{at_error}
use Rattle.cspf_stream.proofs.rows.Rows.take.Goals as goal

pub returns-in_err-add-in-Change-clause-failed : goal.returns-in_err-add-in-Change-clause-failed
returns-in_err-add-in-Change-clause-failed g c =
    at_error _ c.from_residual.result
    (λ s kept. (
      s,
      record { sink = kept.sink; changes = rw c.in_err-add-in-Change.ensures.same kept.changes; answers = kept.answers; refused = kept.refused },
      rw c.in-Change.is refl,
    ))

pub returns-in_err-line-in-Ask-clause-failed : goal.returns-in_err-line-in-Ask-clause-failed
returns-in_err-line-in-Ask-clause-failed g c =
    at_error _ c.from_residual-in_err-line-in-Ask.result
    (λ s kept. (
      s,
      record { sink = c.in_err-line-in-Ask.ensures.same ∙ kept.sink; changes = kept.changes; answers = kept.answers; refused = kept.refused },
      rw c.in-Ask.is refl,
    ))

pub returns-in_ok-add-in-Change-clause-answered : goal.returns-in_ok-add-in-Change-clause-answered
returns-in_ok-add-in-Change-clause-answered g c = λ s kept. (
  record s { changes = s.changes ++ c.in-Change.change ∷ [] },
  record { sink = kept.sink; changes = c.in_ok-add-in-Change.ensures.open s.changes kept.changes; answers = kept.answers; refused = kept.refused },
  rw c.in-Change.is (c.new.ensures.items, refl),
)

pub returns-in-End-clause-answered : goal.returns-in-End-clause-answered
returns-in-End-clause-answered g c = rw c.in-End.is c.end.ensures.answered

pub returns-in-End-clause-failed : goal.returns-in-End-clause-failed
returns-in-End-clause-failed g c = rw c.in-End.is c.end.ensures.failed

pub returns-in_ok-line-in-Ask-clause-answered : goal.returns-in_ok-line-in-Ask-clause-answered
returns-in_ok-line-in-Ask-clause-answered g c = λ s kept. (
  record s { answers = s.answers + 1 },
  record { sink = c.in_ok-line-in-Ask.ensures.same ∙ kept.sink; changes = kept.changes; answers = ap (λ n. n + 1) kept.answers; refused = kept.refused },
  rw c.in-Ask.is (rw kept.sink at c.in_ok-line-in-Ask.ensures.line, refl),
)
