-- Defines the lines and the status of an audit of a journal, requests and replies.
use Rattle.std.specs.Prelude.{◌≡◌, ℕ, ◌⊎◌, ◌++◌, ◌==◌, if◌then◌else◌, List, length, codes, Option, IfSome}
use Rattle.std.specs.Fmt.{decimal}
use Rattle.std.specs.List.{flat_map}
use Rattle.cspf_rows.specs.Records.{rows_of, Records}
use Rattle.cspf_judge.specs.FaultWords.{fault_words}
use Rattle.cspf_judge.specs.AuditErrors.{IsAuditOf, IsAuditError}
use Rattle.cspf_judge.specs.QuestionAudits.{IsQuestionAuditOf, IsQuestionAuditError}
use Rattle.cspf_questions.specs.declared.kinds.QuestionKinds.{QuestionKinds}
use Rattle.cspf_judge.specs.declared.audits.question_audit_error.QuestionAuditError.{QuestionAuditError}
use Rattle.cspf_judge.specs.declared.audits.question_audit_error.QuestionAuditError.TheVariants as question_error
use Rattle.cspf_judge.specs.declared.audits.audit_error.AuditError.{AuditError}
use Rattle.cspf_judge.specs.declared.audits.audit_error.AuditError.TheVariants as error
use Rattle.cspf_judge.specs.declared.audits.faults.Audit.{Audit}
use Rattle.cspf_judge.specs.declared.audits.faults.AuditFault.{AuditFault}
use Rattle.cspf_stream.specs.declared.batch_refusal.BatchRefusal.TheVariants as refusal
use Rattle.cspf_stream.specs.Lines.{refused_batch_line, too_many_line}
use Rattle.cspf_judge.specs.Inputs.{torn_line, refused_question_row_line, IsFaultLine}

-- the line of a fault
abbrev pub fault_line : AuditFault → List ℕ
fault_line fault = fault_words fault ++ codes "\n"

-- the last line, with the number of good lines and the number of faults
abbrev pub audited_line : ℕ → ℕ → List ℕ
audited_line good faults = codes "good=" ++ decimal good ++ codes " faults=" ++ decimal faults ++ codes "\n"

-- the line that refuses the request row with this number because an earlier row has the same id
abbrev pub same_id_line : ℕ → List ℕ
same_id_line row = codes "request row " ++ decimal row ++ codes " refused: same-id\n"

-- the lines of an audit: one line for each fault, and the last line
abbrev pub audit_lines : Audit → List ℕ
audit_lines audit = flat_map fault_line audit.faults.items ++ audited_line audit.good (length audit.faults.items)

-- the status is 0 if there are no faults, and 2 otherwise
abbrev pub audit_status : Audit → ℕ
audit_status audit = if length audit.faults.items == 0 then 0 else 2

-- The line that refuses streams which can't be audited. If memory is refused or a device fails,
-- there is no line.
abbrev pub IsAuditErrorLine : AuditError → List ℕ → Type 0
IsAuditErrorLine error.Memory line = ⊥
IsAuditErrorLine error.Device line = ⊥
IsAuditErrorLine error.TooManyRows line = line ≡ too_many_line
IsAuditErrorLine (error.Torn after) line = line ≡ torn_line after
IsAuditErrorLine (error.Batch number why) line = line ≡ refused_batch_line number (refusal.Unfit why)
IsAuditErrorLine (error.Requests why) line = IsFaultLine why line
IsAuditErrorLine (error.SameId row) line = line ≡ same_id_line row

-- The line that refuses streams in which rows also ask questions.
abbrev pub IsQuestionAuditErrorLine : QuestionAuditError → List ℕ → Type 0
IsQuestionAuditErrorLine (question_error.Audit why) line = IsAuditErrorLine why line
IsQuestionAuditErrorLine (question_error.Question row why) line = line ≡ refused_question_row_line row why

-- The lines are the lines of the audit, or one line that refuses the streams. `is_audit` says what the
-- audit of three streams is. `is_line` gives the line of an error, and `is_error` says which error the
-- streams have.
abbrev pub IsAuditRunBy : {E : Type 0} → (Records → Records → List ℕ → Audit → Type 0) → (E → List ℕ → Type 0) → (Option (List ℕ) → Option (List ℕ) → Option (List ℕ) → E → Type 0)
    → Option (List ℕ) → Option (List ℕ) → Option (List ℕ) → List ℕ → ℕ → Type 0
IsAuditRunBy {E} is_audit is_line is_error journal requests replies lines status =
    ((audit : Audit) × (lines ≡ audit_lines audit) × (status ≡ audit_status audit)
    × IfSome journal (λ kept. IfSome requests (λ asked. IfSome replies (λ said.
    is_audit (rows_of kept) (rows_of asked) said audit))))
    ⊎ ((why : E) × is_line why lines × (status ≡ 2) × is_error journal requests replies why)

-- The lines are the lines of the audit, or one line that refuses the streams.
abbrev pub IsAuditRun : Option (List ℕ) → Option (List ℕ) → Option (List ℕ) → List ℕ → ℕ → Type 0
IsAuditRun journal requests replies lines status = IsAuditRunBy IsAuditOf IsAuditErrorLine IsAuditError journal requests replies lines status

-- The lines are the lines of the audit of rows that also ask questions of these kinds, or one line that refuses the
-- streams.
abbrev pub IsQuestionAuditRun : QuestionKinds → Option (List ℕ) → Option (List ℕ) → Option (List ℕ) → List ℕ → ℕ → Type 0
IsQuestionAuditRun kinds journal requests replies lines status = IsAuditRunBy (IsQuestionAuditOf kinds) IsQuestionAuditErrorLine (IsQuestionAuditError kinds) journal requests replies lines status
