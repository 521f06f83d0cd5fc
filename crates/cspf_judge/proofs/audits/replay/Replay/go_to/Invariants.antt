use Rattle.std.proofs.Common.{◌-◌, ◌≤◌}
use Rattle.cspf_judge.specs.Reading.{IsAtVersion}
use Rattle.cspf_judge.proofs.audits.replay.Replay.go_to.Given as goal

abbrev pub invariant-loop-self : goal.invariant-loop-self
invariant-loop-self l = record {
  here : IsAtVersion l.batches l.self;
  below : l.self.version ≤ l.version;
}

abbrev pub decreases-loop-self : goal.decreases-loop-self
decreases-loop-self l = l.version - l.self.version
