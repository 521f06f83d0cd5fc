-- The words that name the reason for which a row of a book is refused, and the line of a refused row.
use Rattle.std.specs.Prelude.{ℕ, List, ◌++◌, codes}
use Rattle.std.specs.Fmt.{decimal}
use Rattle.cspf_rows.specs.Words.{words}
use Rattle.cspf_book_run.specs.declared.book_row_error.BookRowError.{BookRowError}
use Rattle.cspf_book_run.specs.declared.book_row_error.BookRowError.TheVariants as error

-- the words for each reason why a row is refused
abbrev pub book_row_words : BookRowError → List ℕ
book_row_words (error.Row why) = words why
book_row_words error.Route = codes "route"
book_row_words error.Memory = codes "memory"

-- the line of a refused row; `place` is the number of the row, counted from 1
abbrev pub refused_book_row_line : ℕ → BookRowError → List ℕ
refused_book_row_line place why = codes "row " ++ decimal place ++ codes " refused: " ++ book_row_words why ++ codes "\n"
