use Rattle.std.proofs.Common.{◌≡◌, List, take, length}
use Rattle.std.specs.Io.KnownBytes.{Appends}
use Rattle.cspf_model.specs.Numbered.{NumberedChanges, AreNumberedFrom}
use Rattle.cspf_serve.specs.BatchRun.{version_lines}
use Rattle.cspf_serve.proofs.batch.versions.write_versions.Given as goal

-- the lines of the first `made` versions are written
abbrev pub invariant-loop-made : goal.invariant-loop-made
invariant-loop-made g l =
    (batches : List NumberedChanges) → AreNumberedFrom 1 batches → length batches ≡ l.count
    → Appends (g.W.Write.contents l.fn.writer) (g.W.Write.contents l.writer) (version_lines (take l.made batches))
