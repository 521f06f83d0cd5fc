-- The exit status of a run over the rows of a stream.
use Rattle.std.specs.Prelude.{ℕ, ◌||◌, nat_lt, if◌then◌else◌}
use Rattle.cspf_solve.specs.declared.summary.Summary.{Summary}

-- the status is 2 if any row or batch was refused or the stream had too many rows, and 0 otherwise
abbrev pub status_of : Summary → ℕ
status_of summary = if summary.too_many || nat_lt 0 summary.refused then 2 else 0
