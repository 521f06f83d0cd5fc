use Rattle.std.proofs.Common.{take}
use Rattle.std.specs.Io.KnownBytes.{Appends}
use Rattle.cspf_rows.specs.JournalLaws.{journal_text}
use Rattle.cspf_judge.proofs.snapshot_run.write_batches.Given as goal

-- the texts of the batches before this index are written
abbrev pub invariant-loop-batch : goal.invariant-loop-batch
invariant-loop-batch g l =
    Appends (g.W.Write.contents l.fn.writer) (g.W.Write.contents l.writer) (journal_text (take l.batch-index l.batches))
