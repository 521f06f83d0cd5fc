use Rattle.std.proofs.Common.{ℕ, ◌<◌, length, take, refl, sym, subst}
use Rattle.std.specs.Io.KnownBytes.{Appends}
use Rattle.cspf_model.specs.Numbered.{NumberedChanges}
use Rattle.cspf_rows.specs.BatchText.{batch_text}
use Rattle.cspf_book_serve.proofs.ShownSteps.{journal_cut}
use Rattle.cspf_book_serve.proofs.shown.ShownKeeps.keep.Goals as goal

pub returns-in-Err-publish-clause-unkept : goal.returns-in-Err-publish-clause-unkept
returns-in-Err-publish-clause-unkept g c =
    let made = c.in_ok-prepared.ensures.0 in
    let old = c.args.self.now.counted.publisher in
    let new = c.publish.new.self.publisher in
    let text = batch_text c.in_ok-prepared.prepared in
    let cut = journal_cut g.J.Write.contents old new c.in_ok-prepared.prepared c.in-Err-publish.error c.in-Err-publish.ensures.why in
    record {
      stops = refl;
      whole = c.in_default.ensures.all;
      part = subst (λ (b : NumberedChanges). c.written_of-written.result < length (batch_text b)) made (subst (λ (k : ℕ). k < length text) (sym c.written_of-written.ensures) cut.0);
      front =
          subst (λ (b : NumberedChanges). Appends (g.J.Write.contents old.journal) (g.J.Write.contents new.journal) (take c.written_of-written.result (batch_text b))) made
          (subst (λ (k : ℕ). Appends (g.J.Write.contents old.journal) (g.J.Write.contents new.journal) (take k text)) (sym c.written_of-written.ensures) cut.1);
      batches = c.in-Err-publish.ensures.same.0;
      source = c.publish.ensures.source;
      steps = c.in-Err-publish.ensures.same.1;
    }
