use Rattle.std.proofs.Common.{refl}
use Rattle.cspf_book_run.proofs.HeldSteps.{offer_done, offer_refused}
use Rattle.cspf_book_run.proofs.book_rows.BookRows.offer.Goals as goal

pub returns-in-Ok-clause-answered : goal.returns-in-Ok-clause-answered
returns-in-Ok-clause-answered g c = λ fields.
    offer_done g.S.Keeps.spec fields c.args.self.now.rows _ c.in_ok-found.ensures.same refl c.args.request.now c.args.hold c.in-Ok.line.items
    (rw c.in-Ok.is at c.in_ok-found.ensures.answered) (rw c.in-Ok.is at c.in_ok-found.ensures.going) refl refl

pub returns-in_ok-line-in-Err-clause-answered : goal.returns-in_ok-line-in-Err-clause-answered
returns-in_ok-line-in-Err-clause-answered g c = λ fields.
    offer_refused g.S.Keeps.spec fields c.args.self.now.rows _ c.in_ok-found.ensures.same refl refl refl c.args.request.now c.args.hold c.in-Err.why c.in_ok-line-in-Err.line.items
    (rw c.in-Err.is at c.in_ok-found.ensures.refused) c.in_ok-line-in-Err.ensures
