-- The text of a fault.
use Rattle.std.specs.Prelude.{List, ℕ, ◌++◌, codes}
use Rattle.std.specs.Fmt.{decimal}
use Rattle.cspf_judge.specs.declared.audits.faults.AuditFault.{AuditFault}
use Rattle.cspf_judge.specs.declared.audits.faults.AuditFault.TheVariants as fault

-- the text of a fault: first the line or the request, and then what is wrong with it
abbrev pub fault_words : AuditFault → List ℕ
fault_words (fault.Unread line) = codes "line " ++ decimal line ++ codes " unread"
fault_words (fault.Foreign line) = codes "line " ++ decimal line ++ codes " foreign"
fault_words (fault.Doubled line) = codes "line " ++ decimal line ++ codes " doubled"
fault_words (fault.NoVersion line) = codes "line " ++ decimal line ++ codes " no-version"
fault_words (fault.Altered line) = codes "line " ++ decimal line ++ codes " altered"
fault_words (fault.Unanswered id) = codes "request " ++ decimal id ++ codes " unanswered"
