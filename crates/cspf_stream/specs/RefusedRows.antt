-- The line that answers a refused row of a stream.
use Rattle.std.specs.Prelude.{ℕ, List, ◌++◌, codes}
use Rattle.std.specs.Fmt.{decimal}
use Rattle.cspf_rows.specs.Words.{words}
use Rattle.cspf_rows.specs.declared.row_error.RowError.{RowError}

-- the line that answers a refused row: the row's number, why the row is refused, and a line feed
abbrev pub refused_row_line : ℕ → RowError → List ℕ
refused_row_line place error = codes "row " ++ decimal place ++ codes " refused: " ++ words error ++ codes "\n"
