use Rattle.cspf_book_run.proofs.KeptOnce.{book_run_once}
use Rattle.cspf_book_run.proofs.laws.one_reply_of_books.Goals as goal

pub returns : goal.returns
returns c = book_run_once c.one_best_answer.ensures c.one_reply_line.ensures c.one_refusal.ensures.one
