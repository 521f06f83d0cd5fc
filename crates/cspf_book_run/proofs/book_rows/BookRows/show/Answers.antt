use Rattle.std.proofs.Common.{refl}
use Rattle.std.proofs.lemmas.Result.{IfOk-weaker}
use Rattle.cspf_book_run.proofs.HeldSteps.{show_done, show_refused}
use Rattle.cspf_book_run.proofs.book_rows.BookRows.show.Goals as goal

pub returns-in-Some-clause-answered : goal.returns-in-Some-clause-answered
returns-in-Some-clause-answered g c = λ fields.
    IfOk-weaker c.show_line.result _ _
    (λ line is. show_done g.S.Keeps.spec fields c.args.self.now.rows _ refl refl c.args.id line.items refl refl c.in-Some.placement.now c.named-version.result
    (rw (c.in-Some.is, c.book.ensures) at c.placement.ensures) c.named-version.ensures is)
    c.show_line.ensures

pub returns-in_ok-line-in-None-clause-answered : goal.returns-in_ok-line-in-None-clause-answered
returns-in_ok-line-in-None-clause-answered g c = λ fields.
    show_refused g.S.Keeps.spec fields c.args.self.now.rows _ refl refl c.args.id c.in_ok-line-in-None.line.items refl refl (rw (c.in-None.is, c.book.ensures) at c.placement.ensures) c.in_ok-line-in-None.ensures
