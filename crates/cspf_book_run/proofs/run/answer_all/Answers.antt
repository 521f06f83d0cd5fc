use Rattle.csv.specs.Reading.{has_failed}
use Rattle.cspf_book_run.proofs.BookRun.{counted_run, run_ends, run_stops, read_failed}
use Rattle.cspf_book_run.proofs.run.answer_all.Goals as goal

pub summary-requires : goal.summary-requires
summary-requires g c = counted_run g.K.Write.contents c.args.book.now c.requires.fresh c.requires.going c.requires.first _ _ _ _ _ (rw c.from-limit.ensures at c.in-Ok.ensures.whole)

pub returns-in-Ok-clause-whole : goal.returns-in-Ok-clause-whole
returns-in-Ok-clause-whole g c =
    run_ends g.K.Write.contents c.args.book.now c.requires.fresh c.requires.going c.requires.first _ _ _ _ _ _ (rw c.from-limit.ensures at c.in-Ok.ensures.whole) c.summary.ensures

pub returns-in-Err-clause-stopped : goal.returns-in-Err-clause-stopped
returns-in-Err-clause-stopped g c =
    rw c.from.ensures (run_stops g.K.Write.contents c.args.book.now c.requires.fresh c.requires.going c.requires.first _ _ (has_failed c.run_rows.new.rows) _ _ _ (rw c.from-limit.ensures at c.in-Err.ensures.stopped))

pub returns-in-Err-clause-read : goal.returns-in-Err-clause-read
returns-in-Err-clause-read g c =
    rw c.from.ensures (read_failed g.K.Write.contents c.args.book.now c.requires.fresh c.requires.going c.requires.first _ _ (has_failed c.run_rows.new.rows) _ _ _ (rw c.from-limit.ensures at c.in-Err.ensures.stopped))
