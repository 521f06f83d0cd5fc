use Rattle.std.proofs.Common.{inl}
use Rattle.std.proofs.lemmas.Result.{IfErr-weaker, IfOk-weaker}
use Rattle.cspf_book_serve.proofs.BeginLines.{other_fault}
use Rattle.cspf_book_serve.proofs.book_serve.run_serve_book.Goals as goal

pub returns-clause-served : goal.returns-clause-served
returns-clause-served g c = IfOk-weaker c.serve_with.result _ _ (λ ran is. is (g.B.Read.remaining c.args.begin) c.in-Ok.ensures.read) c.serve_with.ensures.served

pub returns-clause-refused : goal.returns-clause-refused
returns-clause-refused g c = IfErr-weaker c.serve_with.result _ _ (λ e is. other_fault (g.B.Read.remaining c.args.begin) e.0 is) c.serve_with.ensures.unread

pub returns-clause-unwritten : goal.returns-clause-unwritten
returns-clause-unwritten g c = IfErr-weaker c.serve_with.result _ _ (λ e is. inl is) c.serve_with.ensures.unread
