-- Defines the audit of the replies' lines: the list of faults, and the number of good lines.
use Rattle.std.specs.Prelude.{◌≡◌, ℕ, ◌+◌, ◌⊎◌, Bool, true, false, Option, Some, None, List, [], ◌∷◌, ◌++◌}
use Rattle.std.specs.List.{count_by}
use Rattle.cspf_model.specs.declared.request.Request.{Request}
use Rattle.cspf_model.specs.Numbered.{NumberedChanges}
use Rattle.cspf_judge.specs.declared.audits.faults.Audit.{Audit}
use Rattle.cspf_judge.specs.declared.audits.faults.AuditFault.{AuditFault}
use Rattle.cspf_judge.specs.declared.audits.faults.AuditFault.TheVariants as fault
use Rattle.cspf_judge.specs.declared.audits.finding.Finding.{Finding}
use Rattle.cspf_judge.specs.declared.audits.finding.Finding.TheVariants as finding
use Rattle.cspf_judge.specs.Asks.{AskSpec}
use Rattle.cspf_judge.specs.Findings.{request_spec, IsNamedBy, AreFindingsBy}

-- `place` is the number of a line, counted from 1. The result is the fault of this line, or `None`
-- if its finding isn't a fault.
abbrev pub fault_at : ℕ → Finding → Option AuditFault
fault_at place finding.PassedOver = None
fault_at place finding.Good = None
fault_at place finding.Unread = Some (fault.Unread place)
fault_at place finding.Foreign = Some (fault.Foreign place)
fault_at place finding.Doubled = Some (fault.Doubled place)
fault_at place finding.NoVersion = Some (fault.NoVersion place)
fault_at place finding.Altered = Some (fault.Altered place)

-- the list `faults`, with the given fault (if there is one) in front of it
abbrev pub with_fault : Option AuditFault → List AuditFault → List AuditFault
with_fault None faults = faults
with_fault (Some f) faults = f ∷ faults

-- The faults of consecutive lines that have these findings. `place` is the number of the first of
-- these lines.
abbrev pub faults_from : ℕ → List Finding → List AuditFault
faults_from place [] = []
faults_from place (found ∷ findings) = with_fault (fault_at place found) (faults_from (place + 1) findings)

-- whether a line with this finding is good: it isn't skipped, and has no fault
abbrev pub is_good : Finding → Bool
is_good finding.PassedOver = false
is_good finding.Good = true
is_good finding.Unread = false
is_good finding.Foreign = false
is_good finding.Doubled = false
is_good finding.NoVersion = false
is_good finding.Altered = false

-- the number of good findings
abbrev pub good_count : List Finding → ℕ
good_count findings = count_by is_good findings

module _ {A : Type 0} (spec : AskSpec A) where
  -- `faults` has a fault `Unanswered` for each row whose id is in none of the lines, in the order of
  -- the rows
  abbrev pub AreUnansweredBy : List (List ℕ) → List A → List AuditFault → Type 0
  AreUnansweredBy lines [] faults = faults ≡ []
  AreUnansweredBy lines (q ∷ rows) faults =
      (IsNamedBy spec lines (spec.id q) × AreUnansweredBy lines rows faults)
      ⊎ ((¬ IsNamedBy spec lines (spec.id q))
      × ((more : List AuditFault) × (faults ≡ fault.Unanswered (spec.id q) ∷ more) × AreUnansweredBy lines rows more))

  -- The audit of the replies' lines, given a journal's batches and the rows that ask. The list of
  -- faults begins with the faults of lines, in the order of the lines. A fault for each row whose id
  -- is in no line follows. The audit also counts the good lines.
  pub record IsAuditBy (batches : List NumberedChanges) (rows : List A) (lines : List (List ℕ)) (audit : Audit) : Type 0 where
    pub findings : List Finding
    pub unanswered : List AuditFault
    pub found : AreFindingsBy spec batches rows lines findings
    pub left : AreUnansweredBy lines rows unanswered
    pub faults : audit.faults.items ≡ faults_from 1 findings ++ unanswered
    pub good : audit.good ≡ good_count findings

-- `faults` has a fault `Unanswered` for each request whose id is in none of the lines, in the order
-- of the requests
abbrev pub AreUnanswered : List (List ℕ) → List Request → List AuditFault → Type 0
AreUnanswered lines requests faults = AreUnansweredBy request_spec lines requests faults

-- The audit of the replies' lines, given a journal's batches and the requests. The list of faults
-- begins with the faults of lines, in the order of the lines. A fault for each request whose id is
-- in no line follows. The audit also counts the good lines.
abbrev pub IsAudit : List NumberedChanges → List Request → List (List ℕ) → Audit → Type 0
IsAudit batches requests lines audit = IsAuditBy request_spec batches requests lines audit
