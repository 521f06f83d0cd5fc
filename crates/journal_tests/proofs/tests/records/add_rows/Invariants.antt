use Rattle.cspf_rows.specs.Records.{IsPlain}
use Rattle.journal_tests.proofs.tests.records.add_rows.Given as goal

abbrev pub invariant-loop-row : goal.invariant-loop-row
invariant-loop-row l = IsPlain l.rows
