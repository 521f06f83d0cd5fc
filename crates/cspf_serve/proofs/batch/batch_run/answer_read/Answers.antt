use Rattle.std.proofs.Common.{◌≡◌, ℕ, List, take, length, sym, refl, subst}
use Rattle.cspf_model.specs.Changes.{database_after}
use Rattle.cspf_model.specs.Numbered.{NumberedChanges}
use Rattle.cspf_judge.specs.EarlyEnds.{HasBegun, Writes}
use Rattle.cspf_judge.specs.LineTexts.{judge_line_text}
use Rattle.cspf_serve.specs.BatchRun.{AreReplies}
use Rattle.cspf_judge.proofs.Fronts.{at_error}
use Rattle.cspf_serve.proofs.BatchFronts.{replies_begun, unfit_begun, versions_begun}
use Rattle.cspf_serve.proofs.BatchLines.{accepted_written, unfit_written}
use Rattle.cspf_serve.proofs.batch.batch_run.answer_read.Goals as goal

pub returns-in_ok-put_line-in-Some-clause-whole : goal.returns-in_ok-put_line-in-Some-clause-whole
returns-in_ok-put_line-in-Some-clause-whole g c = λ batches is.
    let published = c.args.publisher.now.batches in
    unfit_written batches published c.args.requests.now (judge_line_text c.in-Some.line)
    (g.W.Write.contents c.args.writer.now) (g.W.Write.contents c.write_versions.new.writer) (g.W.Write.contents c.put_line.new.writer)
    (rw c.in-Some.is at is) c.version.ensures.history.lawful
    (c.in_ok-write_versions.ensures.text published c.version.ensures.history.numbers (sym c.version.ensures.version))
    c.in_ok-put_line-in-Some.ensures.text

pub returns-in_ok-answer_in_parts-in-None-clause-whole :
    goal.returns-in_ok-answer_in_parts-in-None-clause-whole
returns-in_ok-answer_in_parts-in-None-clause-whole g c = λ batches is.
    let published = c.args.publisher.now.batches in
    let same : published ≡ batches = rw c.in-None.is at is in
    accepted_written batches c.args.requests.now (database_after batches)
    (g.W.Write.contents c.args.writer.now) (g.W.Write.contents c.write_versions.new.writer) (g.W.Write.contents c.answer_in_parts.new.writer)
    (rw same at c.version.ensures.history.lawful) refl
    (rw same at (c.in_ok-write_versions.ensures.text published c.version.ensures.history.numbers (sym c.version.ensures.version)))
    (subst (λ (l : List NumberedChanges). Writes (g.W.Write.contents c.write_versions.new.writer) (g.W.Write.contents c.answer_in_parts.new.writer)
    (AreReplies (database_after l) (length l) c.args.requests.now)) same c.in_ok-answer_in_parts-in-None.ensures.text)

pub returns-in_err-write_versions-clause-begun : goal.returns-in_err-write_versions-clause-begun
returns-in_err-write_versions-clause-begun g c =
    at_error _ c.from_residual.result (λ batches is.
    let published = c.args.publisher.now.batches in
    versions_begun batches published c.args.requests.now (g.W.Write.contents c.args.writer.now) (g.W.Write.contents c.write_versions.new.writer) (g.W.Write.contents c.write_versions.new.writer)
    c.version.ensures.history.lawful c.args.unfit is
    (c.in_err-write_versions.ensures.front published c.version.ensures.history.numbers (sym c.version.ensures.version)))

pub returns-in_err-put_line-in-Some-clause-begun : goal.returns-in_err-put_line-in-Some-clause-begun
returns-in_err-put_line-in-Some-clause-begun g c =
    at_error _ c.from_residual-in_err-put_line-in-Some.result (λ batches is.
    let published = c.args.publisher.now.batches in
    unfit_begun batches published c.args.requests.now (g.W.Write.contents c.args.writer.now) (g.W.Write.contents c.write_versions.new.writer) (g.W.Write.contents c.put_line.new.writer)
    c.version.ensures.history.lawful c.in-Some.line (rw c.in-Some.is at is)
    (c.in_ok-write_versions.ensures.text published c.version.ensures.history.numbers (sym c.version.ensures.version))
    c.in_err-put_line-in-Some.ensures.front)

pub returns-in_err-answer_in_parts-in-None-clause-begun : goal.returns-in_err-answer_in_parts-in-None-clause-begun
returns-in_err-answer_in_parts-in-None-clause-begun g c =
    at_error _ c.from_residual-in_err-answer_in_parts-in-None.result (λ batches is.
    let published = c.args.publisher.now.batches in
    let same : published ≡ batches = rw c.in-None.is at is in
    let mid = g.W.Write.contents c.write_versions.new.writer in
    let new = g.W.Write.contents c.answer_in_parts.new.writer in
    replies_begun batches c.args.requests.now (g.W.Write.contents c.args.writer.now) mid new (rw same at c.version.ensures.history.lawful)
    (rw same at (c.in_ok-write_versions.ensures.text published c.version.ensures.history.numbers (sym c.version.ensures.version)))
    (subst (λ (l : List NumberedChanges). HasBegun mid new (λ lines. (count : ℕ) × AreReplies (database_after l) (length l) (take count c.args.requests.now) lines))
    same c.in_err-answer_in_parts-in-None.ensures.begun))
