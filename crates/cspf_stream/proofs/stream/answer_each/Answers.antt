use Rattle.std.proofs.Common.{rules, refl, arith}
use Rattle.std.proofs.lemmas.Result.{err_from_is_err_and}
use Rattle.csv.specs.Records.{fields_of}
use Rattle.csv.specs.Reading.{has_failed}
use Rattle.cspf_rows.specs.Records.{rows_left}
use Rattle.cspf_stream.specs.StreamStops.{NeverFails}
use Rattle.cspf_stream.proofs.Going.{begins, steps, ends, stops_at_read, stops_with, too_many}
use Rattle.cspf_stream.proofs.stream.answer_each.Goals as goal

pub loop-read-init : goal.loop-read-init
loop-read-init g c = record {
  plain = c.requires.plain;
  state = c.requires.state;
  going = begins g.A.Answering.answers (rows_left g.R.Read.remaining c.args.rows.now) c.args.answering.now (g.W.Write.contents c.args.writer.now) c.args.written.now c.requires.none;
  small = omega (arith, c.requires.none);
}

pub returns-in_err-next_record-clause-stopped : goal.returns-in_err-next_record-clause-stopped
returns-in_err-next_record-clause-stopped g c =
    let p = err_from_is_err_and c.from_residual.result c.from_residual.ensures.1 in
    rw (p.1, p.2)
    (stops_at_read g.A.Answering.answers (rows_left g.R.Read.remaining c.args.rows.now) (rows_left g.R.Read.remaining c.loop-read.rows) (rows_left g.R.Read.remaining c.next_record.new.rows)
    c.args.answering.now c.loop-read.answering (g.W.Write.contents c.args.writer.now) (g.W.Write.contents c.loop-read.writer) c.loop-read.read c.loop-read.written (fields_of c.next_record.new.fields)
    c.loop-read.invariant.going NeverFails c.args.manner.limit c.args.manner.flush c.in_err-next_record.field-0.0 _ (rows_left g.R.Read.remaining c.next_record.new.rows) (has_failed c.next_record.new.rows)
    c.in_err-next_record.ensures.failed (omega arith) refl)

pub returns-then-not-branch-clause-whole : goal.returns-then-not-branch-clause-whole
returns-then-not-branch-clause-whole g c =
    ends g.A.Answering.answers (rows_left g.R.Read.remaining c.args.rows.now) (rows_left g.R.Read.remaining c.loop-read.rows) (rows_left g.R.Read.remaining c.next_record.new.rows)
    c.args.answering.now c.loop-read.answering (g.W.Write.contents c.args.writer.now) (g.W.Write.contents c.loop-read.writer) c.loop-read.read c.loop-read.written (fields_of c.next_record.new.fields)
    c.loop-read.invariant.going c.args.manner.limit (omega arith) (rw c.if-not-branch.true at c.in_ok-next_record.ensures.row)

pub returns-in_err-answer_row-clause-stopped : goal.returns-in_err-answer_row-clause-stopped
returns-in_err-answer_row-clause-stopped g c =
    let p = err_from_is_err_and c.from_residual-in_err-answer_row.result c.from_residual-in_err-answer_row.ensures.1 in
    rw (p.1, p.2)
    (stops_with g.A.Answering.answers (rows_left g.R.Read.remaining c.args.rows.now) (rows_left g.R.Read.remaining c.loop-read.rows) (rows_left g.R.Read.remaining c.next_record.new.rows)
    c.args.answering.now c.loop-read.answering (g.W.Write.contents c.args.writer.now) (g.W.Write.contents c.loop-read.writer) c.loop-read.read c.loop-read.written (fields_of c.next_record.new.fields)
    c.loop-read.invariant.going g.A.Answering.fails c.args.manner.limit c.args.manner.flush c.answer_row.new.answering (g.W.Write.contents c.answer_row.new.writer) (has_failed c.next_record.new.rows) c.in_err-answer_row.field-0.0
    c.answer_row.new.written (omega arith) (rw c.if-not-branch.false at c.in_ok-next_record.ensures.row) c.in_err-answer_row.ensures.stopped)

pub loop-read-preserved : goal.loop-read-preserved
loop-read-preserved g c = record {
  plain = search rules;
  state = c.in_ok-answer_row.ensures.state;
  going =
      steps g.A.Answering.answers (rows_left g.R.Read.remaining c.args.rows.now) (rows_left g.R.Read.remaining c.loop-read.rows) (rows_left g.R.Read.remaining c.next_record.new.rows)
      c.args.answering.now c.loop-read.answering (g.W.Write.contents c.args.writer.now) (g.W.Write.contents c.loop-read.writer) c.loop-read.read c.loop-read.written (fields_of c.next_record.new.fields)
      c.loop-read.invariant.going c.answer_row.new.answering (g.W.Write.contents c.answer_row.new.writer) c.in_ok-answer_row.ensures.answered.0 c.answer_row.new.written
      (rw c.if-not-branch.false at c.in_ok-next_record.ensures.row) c.in_ok-answer_row.ensures.answered.1 c.in_ok-answer_row.ensures.answered.2 c.in_ok-answer_row.ensures.answered.3;
  small = c.answer_row.ensures.small;
}

pub returns-in_err-next_record-2-clause-stopped : goal.returns-in_err-next_record-2-clause-stopped
returns-in_err-next_record-2-clause-stopped g c =
    let p = err_from_is_err_and c.from_residual-in_err-next_record-2.result c.from_residual-in_err-next_record-2.ensures.1 in
    rw (p.1, p.2)
    (stops_at_read g.A.Answering.answers (rows_left g.R.Read.remaining c.args.rows.now) (rows_left g.R.Read.remaining c.loop-read.rows) (rows_left g.R.Read.remaining c.next_record-2.new.rows)
    c.args.answering.now c.loop-read.answering (g.W.Write.contents c.args.writer.now) (g.W.Write.contents c.loop-read.writer) c.loop-read.read c.loop-read.written (fields_of c.next_record-2.new.fields)
    c.loop-read.invariant.going NeverFails c.args.manner.limit c.args.manner.flush c.in_err-next_record-2.field-0.0 _ (rows_left g.R.Read.remaining c.next_record-2.new.rows) (has_failed c.next_record-2.new.rows)
    c.in_err-next_record-2.ensures.failed (omega arith) refl)

pub returns-then-branch-clause-stopped : goal.returns-then-branch-clause-stopped
returns-then-branch-clause-stopped g c =
    too_many g.A.Answering.answers (rows_left g.R.Read.remaining c.args.rows.now) (rows_left g.R.Read.remaining c.loop-read.rows) (rows_left g.R.Read.remaining c.next_record-2.new.rows)
    c.args.answering.now c.loop-read.answering (g.W.Write.contents c.args.writer.now) (g.W.Write.contents c.loop-read.writer) c.loop-read.read c.loop-read.written (fields_of c.next_record-2.new.fields)
    c.loop-read.invariant.going NeverFails c.args.manner.limit c.args.manner.flush (has_failed c.next_record-2.new.rows) (omega arith) (rw c.if-branch.true at c.in_ok-next_record-2.ensures.row)

pub returns-clause-whole : goal.returns-clause-whole
returns-clause-whole g c =
    ends g.A.Answering.answers (rows_left g.R.Read.remaining c.args.rows.now) (rows_left g.R.Read.remaining c.loop-read.rows) (rows_left g.R.Read.remaining c.next_record-2.new.rows)
    c.args.answering.now c.loop-read.answering (g.W.Write.contents c.args.writer.now) (g.W.Write.contents c.loop-read.writer) c.loop-read.read c.loop-read.written (fields_of c.next_record-2.new.fields)
    c.loop-read.invariant.going c.args.manner.limit (omega arith) (rw c.if-branch.false at c.in_ok-next_record-2.ensures.row)
