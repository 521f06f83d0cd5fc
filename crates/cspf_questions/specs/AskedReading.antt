-- Private: the error with which a stream of rows that ask is refused because of one of its records.
use Rattle.std.specs.Prelude.{◌≡◌, ℕ, Ok, Err}
use Rattle.cspf_rows.specs.declared.row.Row.{Row}
use Rattle.cspf_rows.specs.declared.requests_error.RequestsError.{RequestsError}
use Rattle.cspf_rows.specs.declared.requests_error.RequestsError.TheVariants as requests_error
use Rattle.cspf_rows.specs.Requests.{IsNoRequest}
use Rattle.cspf_questions.specs.declared.asked.AskedError.{AskedError}
use Rattle.cspf_questions.specs.declared.asked.AskedError.TheVariants as asked_error
use Rattle.cspf_questions.specs.declared.reading.ReadFields.{ReadFields}
use Rattle.cspf_questions.specs.declared.reading.ReadFields.TheVariants as reading

-- The stream is refused with this reason because of record `place`, which is read as `read`. Memory
-- may be refused while a record is read, whatever the record is.
abbrev pub IsRequestsRefusedAt : ℕ → ReadFields → RequestsError → Type 0
IsRequestsRefusedAt place read requests_error.Memory = Unit {0}
IsRequestsRefusedAt place read requests_error.Device = ⊥
IsRequestsRefusedAt place read requests_error.TooManyRows = ⊥
IsRequestsRefusedAt place read (requests_error.Bad row error) = (row ≡ place) × (read ≡ reading.Row (Err error))
IsRequestsRefusedAt place read (requests_error.NotAsk row) =
    (row ≡ place) × ((other : Row) × IsNoRequest other × (read ≡ reading.Row (Ok other)))

-- the stream is refused with this error because of record `place`, which is read as `read`
abbrev pub IsAskedRefusedAt : ℕ → ReadFields → AskedError → Type 0
IsAskedRefusedAt place read (asked_error.Requests why) = IsRequestsRefusedAt place read why
IsAskedRefusedAt place read (asked_error.Question row error) = (row ≡ place) × (read ≡ reading.Refused error)
