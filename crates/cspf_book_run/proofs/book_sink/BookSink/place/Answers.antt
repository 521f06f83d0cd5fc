use Rattle.std.proofs.Common.{◌≡◌, ◌+◌, ◌-◌, ◌<◌, ℕ, sym, ap, subst, refl, ◌∙◌, arith}
use Rattle.cspf_model.specs.Outcome.{answer_of}
use Rattle.cspf_book_run.specs.BookLines.{IsPlaceReply}
use Rattle.cspf_book_run.specs.BookScript.{BookRunState, IsPlaceAnswered}
use Rattle.cspf_book_run.specs.BookSinks.{BookSinkState, IsPlacingKept, IsPlaceUnkept}
use Rattle.cspf_book_run.specs.Keeping.{IsKeptIfNew}
use Rattle.cspf_book_run.proofs.PlaceSteps.{placed, same_book, same_keeping, same_sink, line_is, kept_text, unplaced_by, on_err}
use Rattle.cspf_book_run.proofs.book_sink.BookSink.place.Goals as goal
use Rattle.cspf_book_run.proofs.book_sink.BookSink.place.Goals.{in-Route-2, in-NoRoute-2, in-Some, in-None}

pub returns-in_err-line-in-Ok-clause-lost : goal.returns-in_err-line-in-Ok-clause-lost
returns-in_err-line-in-Ok-clause-lost g c =
    on_err c.from_residual.result _
    (same_sink c.self.inside.book c.place.new.self c.self.inside.batches c.self.inside.skipped c.self.inside.keeper.keeping c.line_of.new.self.keeping c.args.self.now c.self.view_is
    (same_book c.self.inside.book c.place.new.self c.args.request.now c.args.hold (answer_of c.in-Ok.outcome) c.in_err-line-in-Ok.ensures.unrouted c.in-Ok.ensures.placed)
    (c.in_err-line-in-Ok.ensures.same
    ∙ same_keeping g.S.Keeps.spec c.self.inside.book c.place.new.self c.args.request.now c.args.hold _ c.place.new.taker (answer_of c.in-Ok.outcome) c.in_err-line-in-Ok.ensures.unrouted c.in-Ok.ensures.taken))

pub returns-in_ok-line-in-Ok-clause-placed : goal.returns-in_ok-line-in-Ok-clause-placed
returns-in_ok-line-in-Ok-clause-placed g c =
    let room : c.self.inside.book.version < 900000 = omega (arith, c.version.ensures, c.if-version-ge-MOST_PLACING_VERSIONS.false) in
    let reply : IsPlaceReply c.args.request.now.id (c.version-in-Ok.result - c.self.inside.skipped) (answer_of c.in-Ok.outcome) c.in_ok-line-in-Ok.line.items =
    line_is g.S.Keeps.spec c.self.inside.book c.place.new.self c.args.request.now c.args.hold _ c.place.new.taker (answer_of c.in-Ok.outcome) c.self.inside.skipped (c.version-in-Ok.result - c.self.inside.skipped) c.in_ok-line-in-Ok.line.items refl
    (ap (λ (n : ℕ). n + 1 - c.self.inside.skipped) c.version-2.ensures) (ap (λ (n : ℕ). n - c.self.inside.skipped) c.version-in-Ok.ensures) c.in-Ok.ensures.taken c.in_ok-line-in-Ok.ensures.line in
    let answered : (s : BookRunState) → c.args.self.now.book ≡ s.book → c.args.self.now.skipped ≡ s.skipped → IsPlaceAnswered s c.args.request.now c.args.hold c.in_ok-line-in-Ok.line.items c.place.new.self =
    λ s e f. placed c.self.inside.book c.place.new.self c.self.inside.skipped c.args.request.now c.args.hold (answer_of c.in-Ok.outcome) (c.version-in-Ok.result - c.self.inside.skipped) c.in_ok-line-in-Ok.line.items room
    c.in-Ok.ensures.few c.in-Ok.ensures.best c.in-Ok.ensures.placed (ap (λ (n : ℕ). n - c.self.inside.skipped) c.version-in-Ok.ensures) reply s (ap (λ (x : BookSinkState g.row.S.Denot). x.book) c.self.view_is ∙ e)
    (ap (λ (x : BookSinkState g.row.S.Denot). x.skipped) c.self.view_is ∙ f) in
    elim c.match-outcome-2.branch [
      | in-Route-2 w ↦ rw w.self-is answered
      | in-NoRoute-2 w ↦ rw w.self-is answered
    ]

pub returns-in_ok-line-in-Ok-clause-kept : goal.returns-in_ok-line-in-Ok-clause-kept
returns-in_ok-line-in-Ok-clause-kept g c =
    let old : BookSinkState g.row.S.Denot = record { book = c.self.inside.book; batches = c.self.inside.batches; skipped = c.self.inside.skipped; keeping = c.self.inside.keeper.keeping } in
    let new : BookSinkState g.row.S.Denot = record { book = c.place.new.self; batches = c.self.inside.batches; skipped = c.self.inside.skipped; keeping = c.line_of.new.self.keeping } in
    let text : IsKeptIfNew g.S.Keeps.spec c.self.inside.book c.place.new.self c.self.inside.keeper.keeping c.args.text.items c.line_of.new.self.keeping =
    subst (λ (x : g.row.S.Denot). IsKeptIfNew g.S.Keeps.spec c.self.inside.book c.place.new.self c.self.inside.keeper.keeping c.args.text.items x) (sym c.in_ok-line-in-Ok.ensures.same)
    (kept_text g.S.Keeps.spec c.self.inside.book c.place.new.self c.args.request.now c.args.hold _ c.place.new.taker (answer_of c.in-Ok.outcome) c.args.text.items refl c.in-Ok.ensures.placed c.in-Ok.ensures.taken) in
    let kept : IsPlacingKept g.S.Keeps.spec old c.args.text.items new = ((sym c.is_stopped.ensures ∙ c.if-is_stopped.false), text) in
    let whole : IsPlacingKept g.S.Keeps.spec c.args.self.now c.args.text.items new =
    subst (λ (p : BookSinkState g.row.S.Denot). IsPlacingKept g.S.Keeps.spec p c.args.text.items new) c.self.view_is kept in
    elim c.match-outcome-2.branch [
      | in-Route-2 w ↦ rw w.self-is whole
      | in-NoRoute-2 w ↦ rw w.self-is whole
    ]

pub returns-after-of_placing-clause-refused : goal.returns-after-of_placing-clause-refused
returns-after-of_placing-clause-refused g c =
    let room : c.self.inside.book.version < 900000 = omega (arith, c.version.ensures, c.if-version-ge-MOST_PLACING_VERSIONS.false) in
    elim c.match-of_placing.branch [
      | in-Some w ↦
          let refused : (s : BookRunState) → c.args.self.now.book ≡ s.book
          → IsPlaceUnkept g.S.Keeps.spec s c.args.request.now c.args.hold c.args.text.items c.args.self.now.keeping w.in-Some.refusal c.place.new.taker.keeping =
          λ s e. subst (λ (k : g.row.S.Denot). IsPlaceUnkept g.S.Keeps.spec s c.args.request.now c.args.hold c.args.text.items k w.in-Some.refusal c.place.new.taker.keeping)
          (ap (λ (x : BookSinkState g.row.S.Denot). x.keeping) c.self.view_is)
          (unplaced_by g.S.Keeps.spec c.self.inside.book c.place.new.self c.args.request.now c.args.hold _ c.place.new.taker c.args.text.items refl room (sym c.is_stopped.ensures ∙ c.if-is_stopped.false) c.in-Err.error w.in-Some.refusal
          (sym c.of_placing.ensures ∙ w.in-Some.is) c.in-Err.ensures.why s (ap (λ (x : BookSinkState g.row.S.Denot). x.book) c.self.view_is ∙ e)) in
          rw w.result-is refused
      | in-None w ↦ rw w.result-is tt
    ]
