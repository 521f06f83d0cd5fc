use Rattle.std.proofs.Common.{◌-◌, ℕ, ap, subst}
use Rattle.std.proofs.lemmas.Result.{IfOk-weaker}
use Rattle.std.specs.Prelude.{IfOk}
use Rattle.cspf_model.specs.Best.{Answer, IsBestAnswer}
use Rattle.cspf_ero.specs.ReplyLine.{IsReply}
use Rattle.cspf_model.specs.Outcome.{answer_of}
use Rattle.cspf_book.specs.Effective.{effective}
use Rattle.cspf_book_run.specs.BookSinks.{BookSinkState}
use Rattle.cspf_book_run.proofs.book_sink.BookSinkSink.reply.Goals as goal

pub returns-clause-line : goal.returns-clause-line
returns-clause-line g c =
    subst (λ (p : BookSinkState g.row.S.Denot). IfOk c.reply_line.result (λ line. (answer : Answer) × IsBestAnswer (effective p.book.base p.book.placements) c.args.request.now answer × IsReply c.args.request.now.id (p.book.version - p.skipped) answer line.items))
    c.self.view_is
    (IfOk-weaker c.reply_line.result _ _ (λ line reply. (answer_of c.in_ok-outcome.outcome, c.in_ok-outcome.ensures, rw (ap (λ (n : ℕ). n - c.self.inside.skipped) c.version.ensures) at reply)) c.reply_line.ensures.line)
