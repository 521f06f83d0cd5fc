use Rattle.std.proofs.Common.{◌≡◌, length}
use Rattle.cspf_judge.specs.LineReading.{AreSeen}
use Rattle.cspf_judge.proofs.audits.lines.read_all.Given as goal

abbrev pub invariant-loop-read : goal.invariant-loop-read
invariant-loop-read g l = record {
  counted : length l.lines.items ≡ l._read;
  seen : AreSeen (g.B.Read.remaining l.fn.reader) (g.B.Read.remaining l.reader) l.lines.items;
}
