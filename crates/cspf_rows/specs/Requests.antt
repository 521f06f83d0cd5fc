-- Which requests a stream has, or for which of its rows the stream is refused.
use Rattle.std.specs.Prelude.{◌≡◌, ◌+◌, ◌≤◌, ℕ, List, ◌∷◌, ◌++◌, map, length, Result, Ok, Err}
use Rattle.cspf_model.specs.declared.request.Request.{Request}
use Rattle.cspf_rows.specs.declared.limits.TheConstants.{MOST_ROWS}
use Rattle.cspf_rows.specs.declared.row.Row.{Row}
use Rattle.cspf_rows.specs.declared.row.Row.TheVariants as row
use Rattle.cspf_rows.specs.declared.row_error.RowError.{RowError}
use Rattle.cspf_rows.specs.declared.requests_error.RequestsError.{RequestsError}
use Rattle.cspf_rows.specs.declared.requests_error.RequestsError.TheVariants as fault
use Rattle.cspf_rows.specs.Rows.{row_of}

-- each record asks for the request at the same index, and the two lists have the same length
abbrev pub AreRequests : List (List (List ℕ)) → List Request → Type 0
AreRequests records requests = map row_of records ≡ map (λ request. Ok (row.Ask request)) requests

-- the row isn't a request
abbrev pub IsNoRequest : Row → Type 0
IsNoRequest (row.Ask request) = ⊥
IsNoRequest other = Unit {0}

-- the first `count` records are requests, and the next record has these fields
pub record HasRequestsBefore (records : List (List (List ℕ))) (count : ℕ) (fields : List (List ℕ)) : Type 0 where
  pub before : List (List (List ℕ))
  pub requests : List Request
  pub after : List (List (List ℕ))
  pub split : records ≡ before ++ (fields ∷ after)
  pub are_requests : AreRequests before requests
  pub counted : length before ≡ count

-- Record `place`, counted from 1, is the first record that is no request. `read` is the row or the
-- error as which this record is read.
pub record IsFirstOther (records : List (List (List ℕ))) (place : ℕ) (read : Result Row RowError) : Type 0 where
  pub count : ℕ
  pub fields : List (List ℕ)
  pub asked : HasRequestsBefore records count fields
  pub is_there : place ≡ count + 1
  pub is_read : row_of fields ≡ read
  pub within : place ≤ MOST_ROWS

-- There are more than `MOST_ROWS` records, and the first `MOST_ROWS` of them are requests.
pub record AreTooMany (records : List (List (List ℕ))) : Type 0 where
  pub fields : List (List ℕ)
  pub asked : HasRequestsBefore records MOST_ROWS fields

-- The error with which these records aren't read as requests. Memory may be refused, and a read may
-- fail, whatever the records are.
abbrev pub IsRequestsFault : List (List (List ℕ)) → RequestsError → Type 0
IsRequestsFault records fault.Memory = Unit {0}
IsRequestsFault records fault.Device = Unit {0}
IsRequestsFault records fault.TooManyRows = AreTooMany records
IsRequestsFault records (fault.Bad place error) = IsFirstOther records place (Err error)
IsRequestsFault records (fault.NotAsk place) = (other : Row) × IsNoRequest other × IsFirstOther records place (Ok other)
