use Rattle.std.proofs.Common.{refl}
use Rattle.cspf_book_run.proofs.PlaceSteps.{refusal_counted}
use Rattle.cspf_book_run.proofs.book_rows.BookRows.line_of.Goals as goal

pub returns-in-Ok-clause-answered : goal.returns-in-Ok-clause-answered
returns-in-Ok-clause-answered g c = rw c.in-Ok.is c.take_row.ensures.answered

pub returns-in-Ok-clause-lost : goal.returns-in-Ok-clause-lost
returns-in-Ok-clause-lost g c = rw c.in-Ok.is c.take_row.ensures.lost

pub returns-in_ok-line-in-Err-clause-answered : goal.returns-in_ok-line-in-Err-clause-answered
returns-in_ok-line-in-Err-clause-answered g c = rw c.in-Err.is (refusal_counted c.args.self.now.rows _ refl refl refl refl _ _ c.in_ok-line-in-Err.ensures)
