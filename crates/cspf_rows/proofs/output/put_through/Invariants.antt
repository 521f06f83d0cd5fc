use Rattle.std.proofs.Common.{◌≡◌, ◌≤◌, ◌-◌, false, length, take}
use Rattle.std.specs.Io.KnownBytes.{Appends}
use Rattle.cspf_rows.proofs.output.put_through.Given as goal

-- the first `sent` bytes are written, and no write has failed
abbrev pub invariant-loop-sent : goal.invariant-loop-sent
invariant-loop-sent g l = record {
  within : l.sent ≤ length l.text;
  writer : l.to.to.ghost_name ≡ l.initial.to.to.ghost_name;
  unfailed : l.to.has_failed ≡ false;
  written : Appends (g.W.Write.contents l.fn.to.to.now) (g.W.Write.contents l.to.to.now) (take l.sent l.text);
}

abbrev pub decreases-loop-sent : goal.decreases-loop-sent
decreases-loop-sent g l = length l.text - l.sent
