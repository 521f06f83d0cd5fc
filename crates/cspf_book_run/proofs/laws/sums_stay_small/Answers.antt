use Rattle.cspf_book_run.proofs.BookRanges.{in_range_at_first, rows_keep_range}
use Rattle.cspf_book_run.proofs.laws.sums_stay_small.Goals as goal

pub returns-clause-start : goal.returns-clause-start
returns-clause-start c = in_range_at_first

pub returns-clause-kept : goal.returns-clause-kept
returns-clause-kept c = rows_keep_range c.rows_are_read.ensures.read
