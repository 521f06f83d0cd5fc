use Rattle.std.proofs.Common.{◌≡◌, take}
use Rattle.std.specs.List.{flat_map}
use Rattle.cspf_rows.specs.BatchText.{batch_text}
use Rattle.cspf_book_run.proofs.compact.batches_text.Given as goal

-- the texts of the batches before this index are written
abbrev pub invariant-loop-batch : goal.invariant-loop-batch
invariant-loop-batch l = l.text.items ≡ flat_map batch_text (take l.batch-index l.batches)
