-- Which rows that ask a stream has, or for which of its records the stream isn't read.
use Rattle.std.specs.Prelude.{◌≡◌, ◌+◌, ◌≤◌, ℕ, List, ◌∷◌, ◌++◌, map, length, Ok, Err}
use Rattle.cspf_rows.specs.declared.limits.TheConstants.{MOST_ROWS}
use Rattle.cspf_rows.specs.declared.row.Row.{Row}
use Rattle.cspf_rows.specs.declared.row.Row.TheVariants as row
use Rattle.cspf_rows.specs.declared.requests_error.RequestsError.{RequestsError}
use Rattle.cspf_rows.specs.declared.requests_error.RequestsError.TheVariants as requests_error
use Rattle.cspf_rows.specs.Requests.{IsNoRequest}
use Rattle.cspf_questions.specs.QuestionLines.{question_id}
use Rattle.cspf_questions.specs.QuestionRows.{read_fields}
use Rattle.cspf_questions.specs.declared.asked.AskedError.{AskedError}
use Rattle.cspf_questions.specs.declared.asked.AskedError.TheVariants as asked_error
use Rattle.cspf_questions.specs.declared.asked.AskedRow.{AskedRow}
use Rattle.cspf_questions.specs.declared.asked.AskedRow.TheVariants as asked_row
use Rattle.cspf_questions.specs.declared.kinds.QuestionKinds.{QuestionKinds}
use Rattle.cspf_questions.specs.declared.reading.ReadFields.{ReadFields}
use Rattle.cspf_questions.specs.declared.reading.ReadFields.TheVariants as reading

-- the id of a row
abbrev pub asked_id : AskedRow → ℕ
asked_id (asked_row.Ask q) = q.id
asked_id (asked_row.Question question) = question_id question

-- what the record of a row is read as
abbrev pub read_back : AskedRow → ReadFields
read_back (asked_row.Ask q) = reading.Row (Ok (row.Ask q))
read_back (asked_row.Question question) = reading.Question question

-- Each record is read as the row at the same index, and the two lists have the same length.
-- Questions of these kinds are read.
abbrev pub AreAskedRows : QuestionKinds → List (List (List ℕ)) → List AskedRow → Type 0
AreAskedRows kinds records rows = map (read_fields kinds) records ≡ map read_back rows

-- the first `count` records are rows that ask, and the next record has these fields
pub record HasAskedBefore (kinds : QuestionKinds) (records : List (List (List ℕ))) (count : ℕ) (fields : List (List ℕ)) : Type 0 where
  pub before : List (List (List ℕ))
  pub rows : List AskedRow
  pub after : List (List (List ℕ))
  pub split : records ≡ before ++ (fields ∷ after)
  pub are_rows : AreAskedRows kinds before rows
  pub counted : length before ≡ count

-- The records before record `place`, counted from 1, are rows that ask. This record is read as
-- `read`.
pub record IsFirstNotAsked (kinds : QuestionKinds) (records : List (List (List ℕ))) (place : ℕ) (read : ReadFields) : Type 0 where
  pub count : ℕ
  pub fields : List (List ℕ)
  pub asked : HasAskedBefore kinds records count fields
  pub is_there : place ≡ count + 1
  pub is_read : read_fields kinds fields ≡ read
  pub within : place ≤ MOST_ROWS

-- There are more than `MOST_ROWS` records, and the first `MOST_ROWS` of them are rows that ask.
pub record AreTooManyAsked (kinds : QuestionKinds) (records : List (List (List ℕ))) : Type 0 where
  pub fields : List (List ℕ)
  pub asked : HasAskedBefore kinds records MOST_ROWS fields

-- The reason for which these records aren't read, if a stream of `ask` rows may have this reason,
-- too. Memory may be refused, and a read may fail, whatever the records are.
abbrev pub IsRequestsFaultOfAsked : QuestionKinds → List (List (List ℕ)) → RequestsError → Type 0
IsRequestsFaultOfAsked kinds records requests_error.Memory = Unit {0}
IsRequestsFaultOfAsked kinds records requests_error.Device = Unit {0}
IsRequestsFaultOfAsked kinds records requests_error.TooManyRows = AreTooManyAsked kinds records
IsRequestsFaultOfAsked kinds records (requests_error.Bad place error) = IsFirstNotAsked kinds records place (reading.Row (Err error))
IsRequestsFaultOfAsked kinds records (requests_error.NotAsk place) =
    (other : Row) × IsNoRequest other × IsFirstNotAsked kinds records place (reading.Row (Ok other))

-- the reason for which these records aren't read as rows that ask
abbrev pub IsAskedFault : QuestionKinds → List (List (List ℕ)) → AskedError → Type 0
IsAskedFault kinds records (asked_error.Requests why) = IsRequestsFaultOfAsked kinds records why
IsAskedFault kinds records (asked_error.Question place error) = IsFirstNotAsked kinds records place (reading.Refused error)
