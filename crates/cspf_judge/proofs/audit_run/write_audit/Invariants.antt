use Rattle.std.proofs.Common.{take}
use Rattle.std.specs.Io.KnownBytes.{Appends}
use Rattle.std.specs.List.{flat_map}
use Rattle.cspf_judge.specs.AuditRun.{fault_line}
use Rattle.cspf_judge.proofs.audit_run.write_audit.Given as goal

-- the lines of the faults before this index are written
abbrev pub invariant-loop-fault : goal.invariant-loop-fault
invariant-loop-fault g l = Appends (g.W.Write.contents l.fn.writer) (g.W.Write.contents l.writer) (flat_map fault_line (take l.fault-index l.found.faults.items))
