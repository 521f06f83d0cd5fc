use Rattle.std.proofs.Common.{◌∙◌, refl, ap}
use Rattle.cspf_model.specs.Numbered.{NumberedChanges}
use Rattle.cspf_stream.specs.Lines.{version_line}
use Rattle.cspf_stream.proofs.KeptChanges.{kept_all, fits_whole, refusal_whole}
use Rattle.cspf_solve.proofs.table_sink.TableSinkSinkUnit.accept.Goals as goal

pub returns-in-Ok-clause-accepted : goal.returns-in-Ok-clause-accepted
returns-in-Ok-clause-accepted c = λ all front.
    let batch = c.args.batch.now in (
      fits_whole c.args.self.now.table.database batch.number batch.changes all front c.in-Ok.ensures.ok,
      c.in_ok-line.ensures ∙ ap (λ (b : NumberedChanges). version_line b.number) c.batch.view_is,
      rw (c.in-Ok.ensures.changed, kept_all batch.changes all front c.in-Ok.ensures.ok.short) refl,
    )

pub returns-in-Err-clause-refused : goal.returns-in-Err-clause-refused
returns-in-Err-clause-refused c = λ all front.
    let batch = c.args.batch.now in (
      c.in-Err.why,
      refl,
      refusal_whole c.args.self.now.table.database batch.number batch.changes all c.in-Err.why front c.in-Err.ensures.err,
      rw c.in-Err.ensures.same refl,
    )
