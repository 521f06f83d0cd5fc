use Rattle.std.proofs.Common.{◌<◌, ◌-◌, ℕ, ap, ◌∙◌, arith}
use Rattle.cspf_book.specs.BookState.{BookState}
use Rattle.cspf_model.specs.Outcome.{answer_of}
use Rattle.cspf_book_run.specs.BookSinks.{BookSinkState}
use Rattle.cspf_book_run.proofs.HeldSteps.{offer_said}
use Rattle.cspf_book_run.proofs.book_sink.BookSink.offer.Goals as goal
use Rattle.cspf_book_run.proofs.book_sink.BookSink.offer.Goals.{in-Ok+in_ok-line-in-Ok+in-Route-1, in-Ok+in_ok-line-in-Ok+in-NoRoute-1, in-Err+in-Some, in-Err+in-None}

pub returns-clause-answered : goal.returns-clause-answered
returns-clause-answered g c =
    let room : c.self.inside.book.version < 900000 = omega (arith, c.version.ensures, c.if-version-ge-MOST_PLACING_VERSIONS.false) in
    elim c.match-offer.branch [
      | in-Ok+in_ok-line-in-Ok+in-Route-1 w ↦
          let may = rw w.in-Ok.is at c.offer.ensures.may in
          rw w.result-is (λ s e f. offer_said c.self.inside.book may.0 c.self.inside.skipped c.args.request.now c.args.hold (answer_of w.in-Ok.outcome) (w.version-in-Ok.result - c.self.inside.skipped) w.in_ok-line-in-Ok.line.items room
          (rw w.in-Ok.is at c.offer.ensures.few) (rw w.in-Ok.is at c.offer.ensures.best) may.1 (ap (λ (n : ℕ). n - c.self.inside.skipped) (w.version-in-Ok.ensures ∙ ap (λ (b : BookState). b.version) c.offer.ensures.same)) w.in_ok-line-in-Ok.ensures
          s (ap (λ (x : BookSinkState g.row.S.Denot). x.book) c.self.view_is ∙ e) (ap (λ (x : BookSinkState g.row.S.Denot). x.skipped) c.self.view_is ∙ f))
      | in-Ok+in_ok-line-in-Ok+in-NoRoute-1 w ↦
          let may = rw w.in-Ok.is at c.offer.ensures.may in
          rw w.result-is (λ s e f. offer_said c.self.inside.book may.0 c.self.inside.skipped c.args.request.now c.args.hold (answer_of w.in-Ok.outcome) (w.version-in-Ok.result - c.self.inside.skipped) w.in_ok-line-in-Ok.line.items room
          (rw w.in-Ok.is at c.offer.ensures.few) (rw w.in-Ok.is at c.offer.ensures.best) may.1 (ap (λ (n : ℕ). n - c.self.inside.skipped) (w.version-in-Ok.ensures ∙ ap (λ (b : BookState). b.version) c.offer.ensures.same)) w.in_ok-line-in-Ok.ensures
          s (ap (λ (x : BookSinkState g.row.S.Denot). x.book) c.self.view_is ∙ e) (ap (λ (x : BookSinkState g.row.S.Denot). x.skipped) c.self.view_is ∙ f))
      | in-Err+in-Some w ↦ rw w.result-is tt
      | in-Err+in-None w ↦ rw w.result-is tt
    ]
