-- Defines the audit of three whole streams in which rows also ask questions, and why such streams
-- can't be audited.
use Rattle.std.specs.Prelude.{ℕ, List, Option, IfSome}
use Rattle.cspf_rows.specs.Records.{rows_of, Records}
use Rattle.cspf_questions.specs.AskedRows.{IsRequestsFaultOfAsked, IsAskedFault}
use Rattle.cspf_questions.specs.declared.asked.AskedError.TheVariants as asked_error
use Rattle.cspf_questions.specs.declared.kinds.QuestionKinds.{QuestionKinds}
use Rattle.cspf_judge.specs.AuditErrors.{HasLawfulJournal, IsAuditOfBy, IsAuditErrorBy}
use Rattle.cspf_judge.specs.Asked.{asked_spec, AreAskedRowsOf}
use Rattle.cspf_judge.specs.declared.audits.faults.Audit.{Audit}
use Rattle.cspf_judge.specs.declared.audits.question_audit_error.QuestionAuditError.{QuestionAuditError}
use Rattle.cspf_judge.specs.declared.audits.question_audit_error.QuestionAuditError.TheVariants as error

-- `audit` is the audit of three whole streams: a journal, rows that ask, with distinct ids, and a
-- text of replies. The rows that ask also ask questions of these kinds.
abbrev pub IsQuestionAuditOf : QuestionKinds → Records → Records → List ℕ → Audit → Type 0
IsQuestionAuditOf kinds journal requests text audit = IsAuditOfBy asked_spec (AreAskedRowsOf kinds) journal requests text audit

-- Why the streams aren't audited: the first reason that applies, in the order of `IsAuditError`. A
-- stream is `None` if its bytes aren't known. Then nothing is stated about it.
abbrev pub IsQuestionAuditError : QuestionKinds → Option (List ℕ) → Option (List ℕ) → Option (List ℕ) → QuestionAuditError → Type 0
IsQuestionAuditError kinds journal requests replies (error.Audit why) =
    IsAuditErrorBy asked_spec (AreAskedRowsOf kinds) (IsRequestsFaultOfAsked kinds) journal requests replies why
IsQuestionAuditError kinds journal requests replies (error.Question row why) =
    IfSome journal (λ kept. IfSome requests (λ rows.
    HasLawfulJournal (rows_of kept) × IsAskedFault kinds (rows_of rows) (asked_error.Question row why)))
