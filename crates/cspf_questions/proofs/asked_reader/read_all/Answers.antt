use Rattle.std.proofs.Common.{rules, arith}
use Rattle.std.proofs.lemmas.Result.{err_from_is_err_and}
use Rattle.csv.specs.Records.{fields_of}
use Rattle.cspf_rows.specs.Records.{rows_left}
use Rattle.cspf_rows.proofs.ProgressLemmas.{sees_next}
use Rattle.cspf_questions.specs.AskedRows.{AreAskedRows}
use Rattle.cspf_questions.proofs.AskedLemmas.{rows_more, refused_at, one_too_many, few_rows}
use Rattle.cspf_questions.proofs.asked_reader.read_all.Goals as goal

pub returns-in_err-row-clause-err : goal.returns-in_err-row-clause-err
returns-in_err-row-clause-err g c =
    let no = refused_at c.args.kinds c.loop-read.rows.items (rows_left g.R.Read.remaining c.args.records.now) (rows_left g.R.Read.remaining c.loop-read.records)
    (rows_left g.R.Read.remaining c.next_record.new.rows) c.loop-read.read (fields_of c.next_record.new.fields) c.loop-read.invariant.seen
    (rw c.if-not-branch.false at c.in_ok-next_record.ensures.row) _ (omega arith) c.in_err-row.ensures.err in
    let p = err_from_is_err_and c.from_residual-in_err-row.result c.from_residual-in_err-row.ensures.1 in
    rw (p.1, p.2) no

pub loop-read-preserved : goal.loop-read-preserved
loop-read-preserved g c = record {
  plain = search rules;
  seen =
      sees_next (λ seen. AreAskedRows c.args.kinds seen c.loop-read.rows.items) (rows_left g.R.Read.remaining c.args.records.now) (rows_left g.R.Read.remaining c.loop-read.records)
      (rows_left g.R.Read.remaining c.next_record.new.rows) c.loop-read.read (fields_of c.next_record.new.fields) c.loop-read.invariant.seen
      (λ seen. AreAskedRows c.args.kinds seen c.add.new.rows.items) (rw c.if-not-branch.false at c.in_ok-next_record.ensures.row)
      (λ seen counted holds. rw c.in_ok-add.ensures (rows_more c.args.kinds seen c.loop-read.rows.items (fields_of c.next_record.new.fields) c.in_ok-row.row holds c.in_ok-row.ensures.ok));
}

pub returns-then-branch-clause-err : goal.returns-then-branch-clause-err
returns-then-branch-clause-err g c =
    one_too_many c.args.kinds c.loop-read.rows.items (rows_left g.R.Read.remaining c.args.records.now) (rows_left g.R.Read.remaining c.loop-read.records)
    (rows_left g.R.Read.remaining c.next_record-2.new.rows) c.loop-read.read (fields_of c.next_record-2.new.fields) c.loop-read.invariant.seen
    (rw c.if-branch.true at c.in_ok-next_record-2.ensures.row) (omega arith)

pub returns-then-not-branch-clause-most : goal.returns-then-not-branch-clause-most
returns-then-not-branch-clause-most g c =
    few_rows c.args.kinds c.loop-read.rows.items (rows_left g.R.Read.remaining c.args.records.now) (rows_left g.R.Read.remaining c.loop-read.records)
    c.loop-read.read c.loop-read.invariant.seen (omega arith)

pub returns-clause-most : goal.returns-clause-most
returns-clause-most g c =
    few_rows c.args.kinds c.loop-read.rows.items (rows_left g.R.Read.remaining c.args.records.now) (rows_left g.R.Read.remaining c.loop-read.records)
    c.loop-read.read c.loop-read.invariant.seen (omega arith)
