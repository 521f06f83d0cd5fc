use Rattle.std.proofs.Common.{◌≤◌, ◌-◌, vec_len}
use Rattle.std.specs.Vec.{vec_capacity}
use Rattle.cspf_columns.proofs.spans.resize.Given as goal

abbrev pub invariant-loop-spans : goal.invariant-loop-spans
invariant-loop-spans l = record {
  most : vec_len l.spans ≤ l.count;
  capacity : vec_capacity l.fn.spans ≤ vec_capacity l.spans;
}

abbrev pub decreases-loop-spans : goal.decreases-loop-spans
decreases-loop-spans l = l.count - vec_len l.spans
