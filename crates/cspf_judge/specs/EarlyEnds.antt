-- Defines how a run over a journal or requests may end early: with a line that refuses an input, or
-- with an error.
use Rattle.std.specs.Prelude.{◌≡◌, ◌⊎◌, ℕ, Option, List, ◌++◌}
use Rattle.std.specs.Io.KnownBytes.{Appends, Keeps}
use Rattle.cspf_judge.specs.declared.audits.audit_error.AuditError.{AuditError}
use Rattle.cspf_judge.specs.declared.audits.audit_error.AuditError.TheVariants as audit_error
use Rattle.cspf_judge.specs.declared.audits.question_audit_error.QuestionAuditError.{QuestionAuditError}
use Rattle.cspf_judge.specs.declared.audits.question_audit_error.QuestionAuditError.TheVariants as question_audit_error
use Rattle.cspf_db.specs.declared.replay.UnfitBatch.{UnfitBatch}
use Rattle.cspf_rows.specs.declared.read_error.ReadError.{ReadError}
use Rattle.cspf_rows.specs.declared.read_error.ReadError.TheVariants as read_error
use Rattle.cspf_rows.specs.declared.requests_error.RequestsError.{RequestsError}
use Rattle.cspf_rows.specs.declared.requests_error.RequestsError.TheVariants as requests_error
use Rattle.cspf_stream.specs.declared.batch_refusal.BatchRefusal.TheVariants as refusal
use Rattle.cspf_stream.specs.declared.line.StreamLine.TheVariants as stream_line
use Rattle.cspf_stream.specs.Lines.{too_many_line}
use Rattle.cspf_judge.specs.declared.early_end.EarlyEnd.{EarlyEnd}
use Rattle.cspf_judge.specs.declared.early_end.EarlyEnd.TheVariants as early_end
use Rattle.cspf_judge.specs.declared.early_end.JudgeError.{JudgeError}
use Rattle.cspf_judge.specs.declared.early_end.JudgeError.TheVariants.{Memory, Device}
use Rattle.cspf_judge.specs.declared.line.JudgeLine.TheVariants as line
use Rattle.cspf_judge.specs.LineTexts.{judge_line_text}

-- if an input is refused, `Holds` is true of the line that refuses it
abbrev pub IfRefused : EarlyEnd → (List ℕ → Type 0) → Type 0
IfRefused (early_end.Refused line) Holds = Holds (judge_line_text line)
IfRefused (early_end.Failed error) Holds = Unit {0}

-- if memory is refused or a device fails, `Holds` is true of the error
abbrev pub IfFailed : EarlyEnd → (JudgeError → Type 0) → Type 0
IfFailed (early_end.Refused line) Holds = Unit {0}
IfFailed (early_end.Failed error) Holds = Holds error

-- an input is refused, and the line that refuses it was written
abbrev pub IsRefusalWritten : EarlyEnd → Option (List ℕ) → Option (List ℕ) → Type 0
IsRefusalWritten (early_end.Refused line) old new = Appends old new (judge_line_text line)
IsRefusalWritten (early_end.Failed error) old new = ⊥

-- The error of the whole run is the error of the early end. But if an input is refused and its line
-- can't be written, the run may end with any error.
abbrev pub IsLastError : EarlyEnd → JudgeError → Type 0
IsLastError (early_end.Refused line) e = Unit {0}
IsLastError (early_end.Failed error) e = e ≡ error

-- a prefix of the text was written: nothing, some of it, or the whole text
pub record WritesFront (old new : Option (List ℕ)) (text : List ℕ) : Type 0 where
  pub front : List ℕ
  pub rest : List ℕ
  pub split : text ≡ front ++ rest
  pub written : Appends old new front

-- nothing was written, or a prefix of lines for which `Holds` is true
abbrev pub HasBegun : Option (List ℕ) → Option (List ℕ) → (List ℕ → Type 0) → Type 0
HasBegun old new Holds = Keeps old new ⊎ ((lines : List ℕ) × Holds lines × WritesFront old new lines)

-- If an input is refused, a prefix of the line that refuses it was written. If memory was refused
-- or a device failed, nothing was written.
abbrev pub IsRefusalBegun : EarlyEnd → Option (List ℕ) → Option (List ℕ) → Type 0
IsRefusalBegun (early_end.Refused line) old new = WritesFront old new (judge_line_text line)
IsRefusalBegun (early_end.Failed error) old new = Keeps old new

-- lines were written for which `Holds` is true
abbrev pub Writes : Option (List ℕ) → Option (List ℕ) → (List ℕ → Type 0) → Type 0
Writes old new Holds = (lines : List ℕ) × Holds lines × Appends old new lines

-- the run ends with the line that refuses a batch which doesn't fit
abbrev pub unfit_end : UnfitBatch → EarlyEnd
unfit_end unfit = early_end.Refused (line.Stream (stream_line.RefusedBatch unfit.number (refusal.Unfit unfit.refusal)))

-- The line that refuses a journal which can't be read. If memory is refused or a device fails,
-- there is no line.
abbrev pub IsJournalLine : ReadError → List ℕ → Type 0
IsJournalLine read_error.Memory line = ⊥
IsJournalLine read_error.Device line = ⊥
IsJournalLine read_error.TooManyRows line = line ≡ too_many_line

-- The error of a run whose journal can't be read. If a line refuses the journal, there is no error.
abbrev pub IsJournalError : ReadError → JudgeError → Type 0
IsJournalError read_error.Memory e = e ≡ Memory
IsJournalError read_error.Device e = e ≡ Device
IsJournalError read_error.TooManyRows e = ⊥

-- The error of a run whose requests can't be read. If a line refuses the requests, there is no
-- error.
abbrev pub IsRequestsError : RequestsError → JudgeError → Type 0
IsRequestsError requests_error.Memory e = e ≡ Memory
IsRequestsError requests_error.Device e = e ≡ Device
IsRequestsError requests_error.TooManyRows e = ⊥
IsRequestsError (requests_error.Bad row why) e = ⊥
IsRequestsError (requests_error.NotAsk row) e = ⊥

-- The error of a run whose streams can't be audited. If a line refuses the streams, there is no
-- error.
abbrev pub IsAuditFailure : AuditError → JudgeError → Type 0
IsAuditFailure audit_error.Memory e = e ≡ Memory
IsAuditFailure audit_error.Device e = e ≡ Device
IsAuditFailure audit_error.TooManyRows e = ⊥
IsAuditFailure (audit_error.Torn after) e = ⊥
IsAuditFailure (audit_error.Batch number why) e = ⊥
IsAuditFailure (audit_error.Requests why) e = IsRequestsError why e
IsAuditFailure (audit_error.SameId row) e = ⊥

-- The error of a run whose streams can't be audited, where rows also ask questions.
abbrev pub IsQuestionAuditFailure : QuestionAuditError → JudgeError → Type 0
IsQuestionAuditFailure (question_audit_error.Audit why) e = IsAuditFailure why e
IsQuestionAuditFailure (question_audit_error.Question row why) e = ⊥
