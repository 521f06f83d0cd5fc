use Rattle.cspf_solve.proofs.SolveRun.{ok_of_rows, err_of_rows}
use Rattle.cspf_book_run.proofs.BookRun.{halted_at_start}
use Rattle.cspf_book_run.proofs.run.run_book.Goals as goal

pub returns-in-Err-clause-stopped : goal.returns-in-Err-clause-stopped
returns-in-Err-clause-stopped g c = halted_at_start (g.R.Read.remaining c.args.reader) (g.W.Write.contents c.args.writer.now) (g.K.Write.contents c.args.keep)

pub returns-in-Ok-clause-whole : goal.returns-in-Ok-clause-whole
returns-in-Ok-clause-whole g c = rw (c.into_keep.ensures, c.into_keeping.ensures) (ok_of_rows _ _ _ _ _ c.open_records-rows.ensures.rows (rw (c.new-book.ensures.keeping, c.new-in-Ok.ensures) at c.answer_all-ran.ensures.whole))

pub returns-in-Ok-clause-stopped : goal.returns-in-Ok-clause-stopped
returns-in-Ok-clause-stopped g c = rw (c.into_keep.ensures, c.into_keeping.ensures) (err_of_rows _ _ _ _ _ c.open_records-rows.ensures.rows (rw (c.new-book.ensures.keeping, c.new-in-Ok.ensures) at c.answer_all-ran.ensures.stopped))
