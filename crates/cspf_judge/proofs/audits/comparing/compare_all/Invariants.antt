use Rattle.std.proofs.Common.{drop}
use Rattle.cspf_judge.specs.Reading.{IsAtVersion, AreOpenFindings}
use Rattle.cspf_judge.proofs.audits.comparing.compare_all.Given as goal

abbrev pub invariant-loop-claim : goal.invariant-loop-claim
invariant-loop-claim g l = record {
  here : IsAtVersion l.batches l.replay;
  open_ones : AreOpenFindings g.A.Asks.spec l.batches l.requests l.lines (drop l.claim-index l.claims) l.findings;
}
