use Rattle.cspf_book.proofs.book.Book.ask.Goals as goal

pub returns : goal.returns
returns c = rw (← c.self.view_is, ← c.self.invariant.current) c.best.ensures
