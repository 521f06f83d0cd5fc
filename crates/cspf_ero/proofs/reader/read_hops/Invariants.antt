use Rattle.std.proofs.Common.{◌≡◌, ◌+◌, ◌*◌, ◌-◌, length}
use Rattle.cspf_ero.specs.Reading.{subobject_hops}
use Rattle.cspf_ero.proofs.HopReading.{behind}
use Rattle.cspf_ero.proofs.reader.read_hops.Given as goal

abbrev pub decreases-loop-rest : goal.decreases-loop-rest
decreases-loop-rest l = length l.rest

-- the hops that are read so far, followed by the hops of the remaining bytes, are the hops of all
-- bytes after the header
abbrev pub invariant-loop-rest : goal.invariant-loop-rest
invariant-loop-rest l = behind l.hops (subobject_hops (7 - length l.hops) (4 + 8 * length l.hops) l.rest) ≡ subobject_hops 7 4 l.body
