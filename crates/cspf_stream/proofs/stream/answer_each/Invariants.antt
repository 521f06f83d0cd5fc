use Rattle.std.proofs.Common.{◌+◌, ◌*◌, ◌^◌, ◌≤◌}
use Rattle.cspf_rows.specs.Records.{IsPlain, rows_left}
use Rattle.cspf_stream.proofs.Going.{IsGoing}
use Rattle.cspf_stream.proofs.stream.answer_each.Given as goal

abbrev pub invariant-loop-read : goal.invariant-loop-read
invariant-loop-read g l = record {
  plain : IsPlain l.rows;
  state : g.A.Answering.may_stand (l.read + 1) l.answering;
  going : IsGoing g.A.Answering.answers (rows_left g.R.Read.remaining l.fn.rows) (rows_left g.R.Read.remaining l.rows) l.fn.answering l.answering
      (g.W.Write.contents l.fn.writer) (g.W.Write.contents l.writer) l.read l.written;
  small : l.written ≤ l.read * 2 ^ 64;
}
