use Rattle.cspf_book_serve.proofs.PublishedBooks.{rows_show_books}
use Rattle.cspf_book_serve.proofs.laws.published_books.Goals as goal

pub returns : goal.returns
returns c = rows_show_books
