use Rattle.std.proofs.Common.{◌≡◌, subst, sym}
use Rattle.std.proofs.lemmas.Result.{IfOk-weaker, IfErr-weaker}
use Rattle.csv.specs.Reading.{has_failed}
use Rattle.cspf_rows.specs.Records.{rows_left}
use Rattle.cspf_book_run.specs.Compacts.{IsBookRead}
use Rattle.cspf_book_run.specs.declared.book_rows.BookRows.{BookRows}
use Rattle.cspf_book_run.specs.declared.keeper.KeepsNothing.{KeepsNothing}
use Rattle.cspf_book_run.proofs.CompactRuns.{book_read, book_stops, row_stops}
use Rattle.cspf_book_run.proofs.compact_run.read_all.Goals as goal

pub returns-in-Ok-clause-read : goal.returns-in-Ok-clause-read
returns-in-Ok-clause-read g c =
    let all = rows_left g.R.Read.remaining c.args.rows.now in
    IfOk-weaker c.ended.result _ _ (λ rows closed.
    subst (λ (x : BookRows KeepsNothing). IsBookRead all x) (sym closed.0)
    (book_read c.args.compact c.requires.fresh all c.answer_rows.new.answering _ _ c.in-Ok.ensures.whole (subst (λ (x : BookRows KeepsNothing). x.rows.changes.count ≡ 0) closed.0 closed.1)))
    c.ended.ensures.closed

pub returns-in-Ok-clause-stopped : goal.returns-in-Ok-clause-stopped
returns-in-Ok-clause-stopped g c = IfErr-weaker c.ended.result _ _ (λ why stops. book_stops c.args.compact c.requires.fresh _ _ why _ _ c.in-Ok.ensures.whole stops) c.ended.ensures.stopped

pub returns-in-Err-clause-stopped : goal.returns-in-Err-clause-stopped
returns-in-Err-clause-stopped g c =
    rw c.from.ensures (row_stops c.args.compact c.requires.fresh (rows_left g.R.Read.remaining c.args.rows.now) _ (has_failed c.answer_rows.new.rows) c.in-Err.stop c.answer_rows.new.answering _ _ c.in-Err.ensures.stopped)
