use Rattle.std.proofs.Common.{◌≡◌, ℕ, ◌+◌, ◌<◌, List, length, take, subst, arith}
use Rattle.std.proofs.KnownBytes.{Appends-trans}
use Rattle.std.proofs.Math.Seq.{take-length}
use Rattle.std.specs.Io.KnownBytes.{Appends}
use Rattle.cspf_serve.specs.BatchRun.{version_lines}
use Rattle.cspf_stream.specs.Lines.{version_line}
use Rattle.cspf_judge.proofs.Fronts.{at_error}
use Rattle.cspf_serve.proofs.PublishedLines.{version_front, version_more}
use Rattle.cspf_serve.proofs.batch.versions.write_versions.Goals as goal

pub loop-made-preserved : goal.loop-made-preserved
loop-made-preserved g c = λ batches numbered count.
    let made = c.loop-made.made in
    let within : made < length batches = omega arith in
    subst (λ (lines : List ℕ). Appends (g.W.Write.contents c.args.writer.now) (g.W.Write.contents c.put_line.new.writer) lines) (version_more batches made numbered within)
    (Appends-trans (g.W.Write.contents c.args.writer.now) (g.W.Write.contents c.loop-made.writer) (g.W.Write.contents c.put_line.new.writer)
    (version_lines (take made batches)) (version_line (made + 1)) (c.loop-made.invariant batches numbered count) c.in_ok-put_line.ensures.text)

pub returns-in_err-put_line-clause-front : goal.returns-in_err-put_line-clause-front
returns-in_err-put_line-clause-front g c =
    at_error _ c.from_residual.result (λ batches numbered count.
    let within : c.loop-made.made < length batches = omega arith in
    version_front batches c.loop-made.made (g.W.Write.contents c.args.writer.now) (g.W.Write.contents c.loop-made.writer) (g.W.Write.contents c.put_line.new.writer)
    numbered within (c.loop-made.invariant batches numbered count) c.in_err-put_line.ensures.front)

pub returns-clause-text : goal.returns-clause-text
returns-clause-text g c = λ batches numbered count.
    let done : c.loop-made.made ≡ length batches = omega arith in
    let written = rw done at (c.loop-made.invariant batches numbered count) in
    rw take-length at written
