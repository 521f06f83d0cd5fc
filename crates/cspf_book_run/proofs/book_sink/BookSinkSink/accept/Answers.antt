use Rattle.std.proofs.Common.{◌≡◌, ◌+◌, ◌-◌, List, ℕ, refl, ap, subst, ◌∙◌}
use Rattle.cspf_model.specs.Numbered.{NumberedChanges}
use Rattle.cspf_model.specs.declared.batch.Change.{Change}
use Rattle.cspf_rows.specs.BatchText.{batch_text}
use Rattle.cspf_stream.proofs.KeptChanges.{kept_all, fits_whole, refusal_whole}
use Rattle.cspf_stream.specs.declared.batch_refusal.BatchRefusal.TheVariants as refusal
use Rattle.cspf_book_run.specs.BookSinks.{BookSinkState, book_spec}
use Rattle.cspf_book.specs.BookState.{BookState}
use Rattle.cspf_book.specs.Leading.{LeadsTo}
use Rattle.cspf_book.specs.Takings.{after_absorbing}
use Rattle.cspf_book_run.specs.declared.keeper.Keeper.{Keeper}
use Rattle.cspf_book_run.proofs.BookSteps.{base_lines_are, batch_cut}
use Rattle.cspf_book_run.proofs.book_sink.BookSinkSink.accept.Goals as goal

pub returns-in-Ok-clause-accepted : goal.returns-in-Ok-clause-accepted
returns-in-Ok-clause-accepted g c = λ all front.
    let batch = c.args.batch.now in
    let old : BookSinkState g.row.S.Denot = record { book = c.self.inside.book; batches = c.self.inside.batches; skipped = c.self.inside.skipped; keeping = c.self.inside.keeper.keeping } in
    let new : BookSinkState g.row.S.Denot = record { book = c.try_absorb.new.self; batches = c.self.inside.batches + 1; skipped = c.self.inside.skipped; keeping = c.try_absorb.new.taker.keeping } in
    let same = kept_all batch.changes all front c.in-Ok.ensures.ok.short in
    let text : c.in_ok-self-inside.field-0.items ≡ batch_text (record batch { changes = all }) = c.in_ok-self-inside.ensures ∙ ap (λ (cs : List Change). batch_text (record batch { changes = cs })) same in
    subst (λ (p : BookSinkState g.row.S.Denot). (book_spec g.S.Keeps.spec).accepts p (record batch { changes = all }) c.in_ok-lines.lines.items new) c.self.view_is (
      fits_whole c.self.inside.book.base batch.number batch.changes all front c.in-Ok.ensures.ok,
      base_lines_are old batch.number _ _ batch.changes all c.deref.result.now c.deref-2.result.now c.in_ok-lines.lines.items same
          (ap (λ (b : NumberedChanges). b.number) c.batch.view_is) (ap (λ n. n + 1 - c.self.inside.skipped) c.version.ensures)
          (c.deref.ensures.value ∙ c.in_ok-over.ensures) (rw (c.deref-2.ensures.value) c.in_ok-lost.ensures) c.in_ok-lines.ensures,
      rw same at c.in-Ok.ensures.changed,
      refl,
      refl,
      (
        c.in-Ok.ensures.taken.0,
        subst (λ (t : BookState). LeadsTo c.self.inside.book c.in-Ok.ensures.taken.0 t) (rw same at c.in-Ok.ensures.changed) c.in-Ok.ensures.taken.1.leads,
        subst (λ (x : List ℕ). g.S.Keeps.spec.keeps c.self.inside.keeper.keeping x c.in-Ok.ensures.taken.0 c.try_absorb.new.taker.keeping) text c.in-Ok.ensures.taken.2,
      ),
    )

pub returns-in-Unfit-clause-refused : goal.returns-in-Unfit-clause-refused
returns-in-Unfit-clause-refused g c = λ all front.
    let batch = c.args.batch.now in
    let new : BookSinkState g.row.S.Denot = record { book = c.try_absorb.new.self; batches = c.self.inside.batches; skipped = c.self.inside.skipped; keeping = c.try_absorb.new.taker.keeping } in
    let why = rw (c.in-Book.is, c.in-Unfit.is) at c.in-Err.ensures.err in
    subst (λ (p : BookSinkState g.row.S.Denot). (book_spec g.S.Keeps.spec).refuses p (record batch { changes = all }) (refusal.Unfit c.in-Unfit.why) new) c.self.view_is (
      (refusal_whole c.self.inside.book.base batch.number batch.changes all c.in-Unfit.why front why.0, ap (λ (k : Keeper g.row.S.Denot). k.keeping) why.1),
      c.in-Err.ensures.same,
      refl,
      refl,
    )

pub returns-in-Failed-clause-refused : goal.returns-in-Failed-clause-refused
returns-in-Failed-clause-refused g c = λ all front.
    let batch = c.args.batch.now in
    let old : BookSinkState g.row.S.Denot = record { book = c.self.inside.book; batches = c.self.inside.batches; skipped = c.self.inside.skipped; keeping = c.self.inside.keeper.keeping } in
    let new : BookSinkState g.row.S.Denot = record { book = c.try_absorb.new.self; batches = c.self.inside.batches; skipped = c.self.inside.skipped; keeping = c.try_absorb.new.taker.keeping } in
    let why = rw (c.in-Taker.is, c.in-Failed.is) at c.in-Err.ensures.err in
    let same = kept_all batch.changes all front why.0.short in
    let text : c.in_ok-self-inside.field-0.items ≡ batch_text (record batch { changes = all }) = c.in_ok-self-inside.ensures ∙ ap (λ (cs : List Change). batch_text (record batch { changes = cs })) same in
    subst (λ (p : BookSinkState g.row.S.Denot). (book_spec g.S.Keeps.spec).refuses p (record batch { changes = all }) c.batch_refusal.result new) c.self.view_is (
    rw (c.batch_refusal.ensures) (batch_cut g.S.Keeps.spec old (record batch { changes = all }) c.in-Failed.fault new (
      fits_whole c.self.inside.book.base batch.number batch.changes all front why.0,
      c.in_ok-lines.lines.items,
      base_lines_are old batch.number _ _ batch.changes all c.deref.result.now c.deref-2.result.now c.in_ok-lines.lines.items same
          (ap (λ (b : NumberedChanges). b.number) c.batch.view_is) (ap (λ n. n + 1 - c.self.inside.skipped) c.version.ensures)
          (c.deref.ensures.value ∙ c.in_ok-over.ensures) (rw (c.deref-2.ensures.value) c.in_ok-lost.ensures) c.in_ok-lines.ensures,
      (
        why.1,
        subst (λ (changes : List Change). LeadsTo c.self.inside.book why.1 (after_absorbing c.self.inside.book changes)) same why.2.leads,
        subst (λ (x : List ℕ). g.S.Keeps.spec.fails c.self.inside.keeper.keeping x why.1 c.in-Failed.fault c.try_absorb.new.taker.keeping) text why.3,
      ),
    ) c.in-Err.ensures.same refl refl)
    )
