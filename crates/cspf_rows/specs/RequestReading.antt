-- Private: the error with which a stream of requests is refused because of one of its records.
use Rattle.std.specs.Prelude.{◌≡◌, ℕ, Result, Ok, Err}
use Rattle.cspf_rows.specs.declared.row.Row.{Row}
use Rattle.cspf_rows.specs.declared.row_error.RowError.{RowError}
use Rattle.cspf_rows.specs.declared.requests_error.RequestsError.{RequestsError}
use Rattle.cspf_rows.specs.declared.requests_error.RequestsError.TheVariants as fault
use Rattle.cspf_rows.specs.Requests.{IsNoRequest}

-- The stream is refused with this error because of row `place`, which is read as `read`.
abbrev pub IsRefusedAt : ℕ → Result Row RowError → RequestsError → Type 0
IsRefusedAt place read (fault.Bad row error) = (row ≡ place) × (read ≡ Err error)
IsRefusedAt place read (fault.NotAsk row) = (row ≡ place) × ((other : Row) × IsNoRequest other × (read ≡ Ok other))
IsRefusedAt place read other = ⊥
