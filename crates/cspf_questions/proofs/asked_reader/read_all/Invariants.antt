use Rattle.cspf_rows.specs.Records.{rows_left, IsPlain}
use Rattle.cspf_rows.specs.Progress.{HasSeen}
use Rattle.cspf_questions.specs.AskedRows.{AreAskedRows}
use Rattle.cspf_questions.proofs.asked_reader.read_all.Given as goal

abbrev pub invariant-loop-read : goal.invariant-loop-read
invariant-loop-read g l = record {
  plain : IsPlain l.records;
  seen : HasSeen (λ seen. AreAskedRows l.kinds seen l.rows.items) (rows_left g.R.Read.remaining l.fn.records) (rows_left g.R.Read.remaining l.records) l.read;
}
