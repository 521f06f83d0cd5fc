use Rattle.std.proofs.Common.{refl}
use Rattle.std.proofs.lemmas.Result.{IfOk-weaker}
use Rattle.cspf_book_run.proofs.HeldSteps.{left_done, left_refused}
use Rattle.cspf_book_run.proofs.book_rows.BookRows.left.Goals as goal

pub returns-in-Some-clause-answered : goal.returns-in-Some-clause-answered
returns-in-Some-clause-answered g c = λ fields.
    IfOk-weaker c.left_line.result _ _
    (λ line is. left_done g.S.Keeps.spec fields c.args.self.now.rows _ refl refl c.args.from c.args.local line.items refl refl c.in-Some.figures c.named-version.result
    (rw (c.in-Some.is, c.book.ensures) at c.left.ensures) c.named-version.ensures is)
    c.left_line.ensures

pub returns-in_ok-line-in-None-clause-answered : goal.returns-in_ok-line-in-None-clause-answered
returns-in_ok-line-in-None-clause-answered g c = λ fields.
    left_refused g.S.Keeps.spec fields c.args.self.now.rows _ refl refl c.args.from c.args.local c.in_ok-line-in-None.line.items refl refl (rw (c.in-None.is, c.book.ensures) at c.left.ensures) c.in_ok-line-in-None.ensures
