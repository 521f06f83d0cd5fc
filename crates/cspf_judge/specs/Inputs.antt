-- Defines how a journal and a stream of requests are read, and the lines that refuse them.
use Rattle.std.specs.Prelude.{◌≡◌, ℕ, ◌<◌, ◌≤◌, ◌⊎◌, Bool, true, false, List, ◌++◌, length, codes}
use Rattle.std.specs.Fmt.{decimal}
use Rattle.cspf_rows.specs.Records.{Records}
use Rattle.cspf_model.specs.declared.request.Request.{Request}
use Rattle.cspf_model.specs.Numbered.{NumberedChanges}
use Rattle.cspf_rows.specs.declared.limits.TheConstants.{MOST_ROWS}
use Rattle.cspf_rows.specs.declared.journal.Rest.TheVariants as rest
use Rattle.cspf_rows.specs.declared.requests_error.RequestsError.{RequestsError}
use Rattle.cspf_rows.specs.declared.requests_error.RequestsError.TheVariants as fault
use Rattle.cspf_rows.specs.declared.row_error.RowError.{RowError}
use Rattle.cspf_rows.specs.declared.row_error.RowError.TheVariants as row_error
use Rattle.cspf_rows.specs.Journal.{IsJournal}
use Rattle.cspf_rows.specs.Requests.{AreRequests, IsRequestsFault}
use Rattle.cspf_rows.specs.Words.{words}
use Rattle.cspf_stream.specs.Lines.{too_many_line}
use Rattle.cspf_questions.specs.QuestionWords.{question_words}
use Rattle.cspf_questions.specs.declared.error.QuestionError.{QuestionError}

-- the line that refuses a torn journal: rows follow its `count` whole batches
abbrev pub torn_line : ℕ → List ℕ
torn_line count = codes "journal torn after " ++ decimal count ++ codes "\n"

-- the line that refuses the request row with this number
abbrev pub refused_request_line : ℕ → RowError → List ℕ
refused_request_line row error =
    codes "request row " ++ decimal row ++ codes " refused: " ++ words error ++ codes "\n"

-- the line that refuses the request row with this number, if the row is that of a question
abbrev pub refused_question_row_line : ℕ → QuestionError → List ℕ
refused_question_row_line row error =
    codes "request row " ++ decimal row ++ codes " refused: " ++ question_words error ++ codes "\n"

-- A journal of at most 1,000,000 records has these batches. If `accept_torn` is true, records after
-- the last whole batch are skipped. If it is false, there are no such records.
pub record AreBatchesOf (accept_torn : Bool) (records : Records)
    (batches : List NumberedChanges) : Type 0 where
  pub few : length records ≤ MOST_ROWS
  pub journal : IsJournal records batches rest.Clean
      ⊎ (IsJournal records batches rest.Torn × (accept_torn ≡ true))

-- This line refuses the records of a journal: there are too many records, or the journal is torn
-- and `accept_torn` is false.
abbrev pub IsJournalRefused : Bool → Records → List ℕ → Type 0
IsJournalRefused accept_torn records line =
    ((MOST_ROWS < length records) × (line ≡ too_many_line))
    ⊎ ((length records ≤ MOST_ROWS) × (accept_torn ≡ false)
    × ((batches : List NumberedChanges) × IsJournal records batches rest.Torn
    × (line ≡ torn_line (length batches))))

-- a stream of at most 1,000,000 records has these requests
pub record AreRequestsOf (records : Records) (requests : List Request) : Type 0 where
  pub few : length records ≤ MOST_ROWS
  pub asked : AreRequests records requests

-- The line that refuses a stream of requests. A row that isn't a request is refused with the words for an unknown
-- kind of row.
abbrev pub IsFaultLine : RequestsError → List ℕ → Type 0
IsFaultLine fault.Memory line = ⊥
IsFaultLine fault.Device line = ⊥
IsFaultLine fault.TooManyRows line = line ≡ too_many_line
IsFaultLine (fault.Bad row error) line = line ≡ refused_request_line row error
IsFaultLine (fault.NotAsk row) line = line ≡ refused_request_line row row_error.Kind

-- this line refuses the records of a stream of requests
abbrev pub AreRequestsRefused : Records → List ℕ → Type 0
AreRequestsRefused records line =
    (why : RequestsError) × IsRequestsFault records why × IsFaultLine why line
