-- Private: the error of an audit for each fault of a stream.
use Rattle.std.specs.Prelude.{◌≡◌, ◌≢◌, ◌<◌, ◌⊎◌, List, length}
use Rattle.std.specs.IoError.{error_kind}
use Rattle.std.specs.declared.io.Error.{Error}
use Rattle.std.specs.declared.io.ErrorKind.TheVariants as kind
use Rattle.cspf_rows.specs.Records.{Records}
use Rattle.cspf_model.specs.Refusals.{IsFirstUnfit}
use Rattle.cspf_model.specs.Numbered.{NumberedChanges}
use Rattle.cspf_rows.specs.declared.limits.TheConstants.{MOST_ROWS}
use Rattle.cspf_rows.specs.declared.read_error.ReadError.{ReadError}
use Rattle.cspf_rows.specs.declared.read_error.ReadError.TheVariants as read
use Rattle.cspf_rows.specs.declared.requests_error.RequestsError.{RequestsError}
use Rattle.cspf_rows.specs.declared.requests_error.RequestsError.TheVariants as requests
use Rattle.cspf_judge.specs.declared.audits.audit_error.AuditError.{AuditError}
use Rattle.cspf_judge.specs.declared.audits.audit_error.AuditError.TheVariants as error
use Rattle.cspf_questions.specs.declared.asked.AskedError.{AskedError}
use Rattle.cspf_questions.specs.declared.asked.AskedError.TheVariants as asked
use Rattle.cspf_judge.specs.declared.audits.question_audit_error.QuestionAuditError.{QuestionAuditError}
use Rattle.cspf_judge.specs.declared.audits.question_audit_error.QuestionAuditError.TheVariants as question_error
use Rattle.cspf_judge.specs.AuditErrors.{IsTornAfter, IsUnlawfulJournal}

-- the error of the audit if reading the journal fails
abbrev pub audit_error_of : ReadError → AuditError
audit_error_of read.Memory = error.Memory
audit_error_of read.Device = error.Device
audit_error_of read.TooManyRows = error.TooManyRows

-- the error of the audit if reading the requests fails
abbrev pub requests_error_of : RequestsError → AuditError
requests_error_of requests.Memory = error.Memory
requests_error_of requests.Device = error.Device
requests_error_of requests.TooManyRows = error.TooManyRows
requests_error_of (requests.Bad row why) = error.Requests (requests.Bad row why)
requests_error_of (requests.NotAsk row) = error.Requests (requests.NotAsk row)

-- the error of an audit of rows that also ask questions, if reading these rows fails
abbrev pub question_audit_error_of : AskedError → QuestionAuditError
question_audit_error_of (asked.Requests why) = question_error.Audit (requests_error_of why)
question_audit_error_of (asked.Question row why) = question_error.Question row why

-- the error of the audit if reading the replies fails: `Memory` if memory was refused, and else
-- `Device`
abbrev pub IsIoFault : Error → AuditError → Type 0
IsIoFault why e =
    ((error_kind why ≡ kind.OutOfMemory) × (e ≡ error.Memory))
    ⊎ ((error_kind why ≢ kind.OutOfMemory) × (e ≡ error.Device))

-- the error of the audit if the journal can't be read, is torn, or has a batch that doesn't fit
abbrev pub IsJournalFault : Records → AuditError → Type 0
IsJournalFault records error.Memory = Unit {0}
IsJournalFault records error.Device = Unit {0}
IsJournalFault records error.TooManyRows = MOST_ROWS < length records
IsJournalFault records (error.Torn after) = IsTornAfter records after
IsJournalFault records (error.Batch number why) = IsUnlawfulJournal records number why
IsJournalFault records (error.Requests why) = ⊥
IsJournalFault records (error.SameId row) = ⊥

-- the error of the audit if memory is refused, or if a batch doesn't fit the database of the
-- batches before it
abbrev pub IsUnfitBatch : List NumberedChanges → AuditError → Type 0
IsUnfitBatch batches error.Memory = Unit {0}
IsUnfitBatch batches error.Device = ⊥
IsUnfitBatch batches error.TooManyRows = ⊥
IsUnfitBatch batches (error.Torn after) = ⊥
IsUnfitBatch batches (error.Batch number why) = IsFirstUnfit batches number why
IsUnfitBatch batches (error.Requests why) = ⊥
IsUnfitBatch batches (error.SameId row) = ⊥
