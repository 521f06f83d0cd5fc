use Rattle.cspf_book_serve.proofs.ServedCovers.{beginnings_say_over, served_rows_cover_since, published_books_covered}
use Rattle.cspf_book_serve.proofs.laws.published_books_are_covered.Goals as goal

pub returns-clause-begin : goal.returns-clause-begin
returns-clause-begin c = beginnings_say_over

pub returns-clause-since : goal.returns-clause-since
returns-clause-since c = served_rows_cover_since (record {
  placing = c.covered_links.ensures.placing;
  releasing = c.covered_links.ensures.releasing;
  absorbing = c.covered_links.ensures.absorbing;
  restoring = c.covered_links.ensures.restoring;
})

pub returns-clause-published : goal.returns-clause-published
returns-clause-published c = published_books_covered (record {
  placing = c.covered_links.ensures.placing;
  releasing = c.covered_links.ensures.releasing;
  absorbing = c.covered_links.ensures.absorbing;
  restoring = c.covered_links.ensures.restoring;
})
