use Rattle.std.proofs.Common.{Ok, inl, refl}
use Rattle.csv.specs.Records.{fields_of}
use Rattle.cspf_book_run.proofs.PlaceSteps.{release_done, release_refused, release_lost, on_err}
use Rattle.cspf_book_run.proofs.OutOfMemory.{kept_same, lost_same, lost_sink}
use Rattle.cspf_book_run.specs.declared.book_row.BookRow.TheVariants as book_row
use Rattle.cspf_book_run.proofs.book_rows.BookRows.release.Goals as goal

pub returns-in-Ok-clause-answered : goal.returns-in-Ok-clause-answered
returns-in-Ok-clause-answered g c =
    release_done g.S.Keeps.spec (fields_of c.args.fields.now) c.in_ok-text.text.items c.in_ok-text.ensures c.args.self.now.rows _ c.in_ok-found.ensures.batches c.in_ok-found.ensures.skipped refl c.args.id
    c.in-Ok.line.items (rw c.in-Ok.is at c.in_ok-found.ensures.released) (rw c.in-Ok.is at c.in_ok-found.ensures.kept) refl refl

pub returns-in_ok-line-in-Err-clause-answered : goal.returns-in_ok-line-in-Err-clause-answered
returns-in_ok-line-in-Err-clause-answered g c =
    release_refused g.S.Keeps.spec (fields_of c.args.fields.now) c.in_ok-text.text.items c.in_ok-text.ensures c.args.self.now.rows _ c.in_ok-found.ensures.batches c.in_ok-found.ensures.skipped refl
    (rw c.in-Err.is at c.in_ok-found.ensures.same) refl refl c.args.id c.in-Err.why c.in_ok-line-in-Err.line.items (rw c.in-Err.is at c.in_ok-found.ensures.refused) c.in_ok-line-in-Err.ensures

pub returns-in_err-line-in-Err-clause-lost : goal.returns-in_err-line-in-Err-clause-lost
returns-in_err-line-in-Err-clause-lost g c =
    on_err c.from_residual-in_err-line-in-Err.result _ (λ s kept. (
      inl (kept_same c.args.self.now.rows _ c.in_ok-found.ensures.batches c.in_ok-found.ensures.skipped refl (rw c.in-Err.is at c.in_ok-found.ensures.same) refl refl s kept),
      release_lost g.S.Keeps.spec (fields_of c.args.fields.now) c.in_ok-text.text.items c.in_ok-text.ensures c.args.self.now.rows _
          c.args.id c.in-Err.why (rw c.in-Err.is at c.in_ok-found.ensures.refused) s kept,
    ))

pub returns-in_err-found-clause-lost : goal.returns-in_err-found-clause-lost
returns-in_err-found-clause-lost g c =
    on_err c.from_residual-in_err-found.result _ (lost_sink g.S.Keeps.spec (fields_of c.args.fields.now) (Ok (book_row.Release c.args.id)) c.args.self.now.rows _ c.in_err-found.ensures.lost)

pub returns-in_err-text-clause-lost : goal.returns-in_err-text-clause-lost
returns-in_err-text-clause-lost g c =
    on_err c.from_residual.result _ (lost_same g.S.Keeps.spec (fields_of c.args.fields.now) (Ok (book_row.Release c.args.id)) c.args.self.now.rows c.args.self.now.rows refl)
