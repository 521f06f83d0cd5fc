use Rattle.std.proofs.Common.{Err, ap, inl, inr}
use Rattle.csv.specs.Reading.{has_failed}
use Rattle.cspf_rows.specs.Records.{rows_left}
use Rattle.cspf_serve.proofs.serving.served_run.answer_updates.Goals as goal

pub returns-in-Ok : goal.returns-in-Ok
returns-in-Ok g c = inl (g.W.Write.contents c.answer_rows.new.writer, c.in-Ok.ensures.whole, c.say_last.ensures)

pub returns-in-Err : goal.returns-in-Err
returns-in-Err g c =
    inr (c.in-Err.stop, rows_left g.R.Read.remaining c.answer_rows.new.rows, has_failed c.answer_rows.new.rows, ap Err c.from.ensures, c.in-Err.ensures.stopped)
