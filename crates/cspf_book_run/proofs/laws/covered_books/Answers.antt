use Rattle.cspf_book_run.proofs.BookCovered.{covered_at_first, rows_cover_since}
use Rattle.cspf_book_run.proofs.OverExact.{base_lines_exact}
use Rattle.cspf_book_run.proofs.OverOnly.{only_changers_say}
use Rattle.cspf_book_run.proofs.laws.covered_books.Goals as goal

pub returns-clause-start : goal.returns-clause-start
returns-clause-start c = covered_at_first

pub returns-clause-since : goal.returns-clause-since
returns-clause-since c = rows_cover_since (record {
  placing = c.covered_links.ensures.placing;
  releasing = c.covered_links.ensures.releasing;
  absorbing = c.covered_links.ensures.absorbing;
  restoring = c.covered_links.ensures.restoring;
})

pub returns-clause-exact : goal.returns-clause-exact
returns-clause-exact c = base_lines_exact c.covered_links.ensures.absorbing c.addresses_are_spelled_once.ensures.one

pub returns-clause-only : goal.returns-clause-only
returns-clause-only c = only_changers_say
