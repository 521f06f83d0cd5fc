use Rattle.std.proofs.Common.{◌≡◌, ◌++◌, drop}
use Rattle.cspf_judge.specs.Reading.{unnamed_faults}
use Rattle.cspf_judge.proofs.audits.reporting.report_requests.Given as goal

abbrev pub invariant-loop-index : goal.invariant-loop-index
invariant-loop-index g l = l.faults.items ++ unnamed_faults g.A.Asks.spec.id (drop l.index l.requests) (drop l.index l.named) ≡ l.fn.faults.items ++ unnamed_faults g.A.Asks.spec.id l.requests l.named
