use Rattle.std.proofs.Common.{◌≡◌, List, length, take}
use Rattle.cspf_model.specs.Numbered.{NumberedChanges}
use Rattle.cspf_judge.specs.Reading.{HasReadLines}
use Rattle.cspf_judge.proofs.audits.replies.read_replies.Given as goal

abbrev pub invariant-loop-line : goal.invariant-loop-line
invariant-loop-line g l = record {
  counted : length l.replies.named.items ≡ length l.requests;
  read : (batches : List NumberedChanges) → length batches ≡ l.last → HasReadLines g.A.Asks.spec batches l.requests l.replies (take l.line-index l.lines);
}
