-- Defines the audit of three whole streams, and the errors of an audit: why the streams can't be
-- audited. The definitions whose names end in `By` are of rows that ask, whatever they ask for, and
-- those of requests are their instances.
use Rattle.std.specs.Prelude.{◌≡◌, ℕ, ◌<◌, ◌≤◌, ◌⊎◌, List, length, Option, IfSome}
use Rattle.cspf_model.specs.declared.refusal.Refusal.{Refusal}
use Rattle.cspf_model.specs.declared.request.Request.{Request}
use Rattle.cspf_model.specs.Numbered.{NumberedChanges}
use Rattle.cspf_model.specs.Changes.{AreLawful}
use Rattle.cspf_model.specs.Refusals.{IsFirstUnfit}
use Rattle.cspf_rows.specs.declared.limits.TheConstants.{MOST_ROWS}
use Rattle.cspf_rows.specs.declared.journal.Rest.TheVariants as rest
use Rattle.cspf_rows.specs.declared.requests_error.RequestsError.{RequestsError}
use Rattle.cspf_rows.specs.declared.requests_error.RequestsError.TheVariants as requests_error
use Rattle.cspf_rows.specs.Records.{rows_of, Records}
use Rattle.cspf_rows.specs.Journal.{IsJournal}
use Rattle.cspf_rows.specs.Requests.{AreRequests, IsRequestsFault}
use Rattle.cspf_judge.specs.declared.audits.audit_error.AuditError.{AuditError}
use Rattle.cspf_judge.specs.declared.audits.audit_error.AuditError.TheVariants as error
use Rattle.cspf_judge.specs.declared.audits.faults.Audit.{Audit}
use Rattle.cspf_judge.specs.Lines.{AreLines, HasTooManyLines}
use Rattle.cspf_judge.specs.Asks.{AskSpec}
use Rattle.cspf_judge.specs.Requests.{HaveOwnIdsBy, RepeatsIdBy}
use Rattle.cspf_judge.specs.Findings.{request_spec}
use Rattle.cspf_judge.specs.Audits.{IsAuditBy}

-- The journal has at most `MOST_ROWS` records. The records are exactly those of `batches`, and no
-- record follows the last batch. Each batch fits the database that the batches before it make.
pub record IsLawfulJournal (records : Records) (batches : List NumberedChanges) : Type 0 where
  pub few : length records ≤ MOST_ROWS
  pub journal : IsJournal records batches rest.Clean
  pub lawful : AreLawful batches

-- the journal begins with `count` whole batches, and further rows follow that don't begin with the
-- next batch
pub record IsTornAfter (records : Records) (count : ℕ) : Type 0 where
  pub few : length records ≤ MOST_ROWS
  pub batches : List NumberedChanges
  pub journal : IsJournal records batches rest.Torn
  pub counted : count ≡ length batches

-- No rows follow the last batch of the journal. The batch with this number is the first one that
-- doesn't fit, for the reason `why`.
pub record IsUnlawfulJournal (records : Records) (number : ℕ) (why : Refusal) : Type 0 where
  pub few : length records ≤ MOST_ROWS
  pub batches : List NumberedChanges
  pub journal : IsJournal records batches rest.Clean
  pub unfit : IsFirstUnfit batches number why

-- the stream has at most `MOST_ROWS` records, and these requests are read from them
pub record AreAsked (records : Records) (requests : List Request) : Type 0 where
  pub few : length records ≤ MOST_ROWS
  pub asked : AreRequests records requests

-- the journal is read without a fault, and each of its batches fits the database of the batches
-- before it
abbrev pub HasLawfulJournal : Records → Type 0
HasLawfulJournal journal = (batches : List NumberedChanges) × IsLawfulJournal journal batches

-- These rows are read from the records of a stream. `asked` says which rows are read from which
-- records, and `spec` how they are answered.
module _ {A : Type 0} (spec : AskSpec A) (asked : Records → List A → Type 0) where
  -- `audit` is the audit of three whole streams: a journal, rows that ask, with distinct ids, and a
  -- text of replies.
  pub record IsAuditOfBy (journal requests : Records) (text : List ℕ) (audit : Audit) : Type 0 where
    pub batches : List NumberedChanges
    pub rows : List A
    pub lines : List (List ℕ)
    pub is_journal : IsLawfulJournal journal batches
    pub are_asked : asked requests rows
    pub own : HaveOwnIdsBy spec.id rows
    pub are_lines : AreLines text lines
    pub few : length lines ≤ MOST_ROWS
    pub is_audit : IsAuditBy spec batches rows lines audit

  -- the rows are read without a fault, and no two of them have the same id
  abbrev pub HasOwnRowsBy : Records → Type 0
  HasOwnRowsBy requests = (rows : List A) × asked requests rows × HaveOwnIdsBy spec.id rows

  -- `is_fault` says which error a stream of such rows has
  module _ (is_fault : Records → RequestsError → Type 0) where
    -- a row is refused for this reason: it can't be read, or it doesn't ask
    abbrev pub IsRowRefusedBy : Records → RequestsError → Type 0
    IsRowRefusedBy records requests_error.Memory = ⊥
    IsRowRefusedBy records requests_error.Device = ⊥
    IsRowRefusedBy records requests_error.TooManyRows = ⊥
    IsRowRefusedBy records (requests_error.Bad row why) = is_fault records (requests_error.Bad row why)
    IsRowRefusedBy records (requests_error.NotAsk row) = is_fault records (requests_error.NotAsk row)

    -- one of the streams has more than `MOST_ROWS` rows or lines, and the streams that are checked
    -- before it have no fault
    abbrev pub IsOneTooLongBy : Records → Records → List ℕ → Type 0
    IsOneTooLongBy journal requests text =
        (MOST_ROWS < length journal)
        ⊎ (HasLawfulJournal journal
        × (is_fault requests requests_error.TooManyRows
        ⊎ (HasOwnRowsBy requests × HasTooManyLines text)))

    -- Why the streams aren't audited: the first reason that applies. The journal, its batches, the
    -- rows, their ids and the replies are checked in this order. A stream is `None` if its bytes
    -- aren't known. Then nothing is stated about it.
    abbrev pub IsAuditErrorBy : Option (List ℕ) → Option (List ℕ) → Option (List ℕ) → AuditError → Type 0
    IsAuditErrorBy journal requests replies error.Memory = Unit {0}
    IsAuditErrorBy journal requests replies error.Device = Unit {0}
    IsAuditErrorBy journal requests replies error.TooManyRows =
        IfSome journal (λ kept. IfSome requests (λ rows. IfSome replies (λ said.
        IsOneTooLongBy (rows_of kept) (rows_of rows) said)))
    IsAuditErrorBy journal requests replies (error.Torn after) =
        IfSome journal (λ kept. IsTornAfter (rows_of kept) after)
    IsAuditErrorBy journal requests replies (error.Batch number why) =
        IfSome journal (λ kept. IsUnlawfulJournal (rows_of kept) number why)
    IsAuditErrorBy journal requests replies (error.Requests why) =
        IfSome journal (λ kept. IfSome requests (λ rows.
        HasLawfulJournal (rows_of kept) × IsRowRefusedBy (rows_of rows) why))
    IsAuditErrorBy journal requests replies (error.SameId row) =
        IfSome journal (λ kept. IfSome requests (λ rows. HasLawfulJournal (rows_of kept)
        × ((list : List A) × asked (rows_of rows) list × RepeatsIdBy spec.id list row)))

-- `audit` is the audit of three whole streams: a journal, requests with distinct ids, and a text of
-- replies.
abbrev pub IsAuditOf : Records → Records → List ℕ → Audit → Type 0
IsAuditOf journal requests text audit = IsAuditOfBy request_spec AreAsked journal requests text audit

-- the requests are read without a fault, and no two of them have the same id
abbrev pub HasOwnRequests : Records → Type 0
HasOwnRequests requests = HasOwnRowsBy request_spec AreAsked requests

-- a row of the requests is refused for this reason: it can't be read, or it isn't a request
abbrev pub IsRowRefused : Records → RequestsError → Type 0
IsRowRefused records why = IsRowRefusedBy request_spec AreAsked IsRequestsFault records why

-- one of the streams has more than `MOST_ROWS` rows or lines, and the streams that are checked
-- before it have no fault
abbrev pub IsOneTooLong : Records → Records → List ℕ → Type 0
IsOneTooLong journal requests text = IsOneTooLongBy request_spec AreAsked IsRequestsFault journal requests text

-- Why the streams aren't audited: the first reason that applies. The journal, its batches, the
-- requests, their ids and the replies are checked in this order. A stream is `None` if its bytes
-- aren't known. Then nothing is stated about it.
abbrev pub IsAuditError : Option (List ℕ) → Option (List ℕ) → Option (List ℕ) → AuditError → Type 0
IsAuditError journal requests replies why = IsAuditErrorBy request_spec AreAsked IsRequestsFault journal requests replies why
