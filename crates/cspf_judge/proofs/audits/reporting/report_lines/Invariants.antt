use Rattle.std.proofs.Common.{◌≡◌, ◌+◌, ◌≤◌, ◌++◌, drop}
use Rattle.cspf_judge.specs.Audits.{faults_from, good_count}
use Rattle.cspf_judge.proofs.audits.reporting.report_lines.Given as goal

abbrev pub invariant-loop-index : goal.invariant-loop-index
invariant-loop-index l = record {
  few : l.good ≤ l.index;
  good : l.good + good_count (drop l.index l.findings) ≡ good_count l.findings;
  faults : l.faults.items ++ faults_from (l.index + 1) (drop l.index l.findings) ≡ l.fn.faults.items ++ faults_from 1 l.findings;
}
