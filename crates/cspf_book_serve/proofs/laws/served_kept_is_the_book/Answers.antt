use Rattle.cspf_book_serve.proofs.ServedKept.{served_kept}
use Rattle.cspf_book_serve.proofs.laws.served_kept_is_the_book.Goals as goal

pub returns : goal.returns
returns c = served_kept c.kept_is_the_book.ensures.behind
