use Rattle.std.proofs.Common.{◌≡◌, take}
use Rattle.std.specs.List.{flat_map}
use Rattle.cspf_book.specs.OverLinks.{over}
use Rattle.cspf_book_run.specs.BookLines.{over_line}
use Rattle.cspf_model.specs.Changes.{changes_of}
use Rattle.cspf_book_serve.proofs.begin.over_lines_of.Given as goal

-- The `over` lines of the batches before this index are written.
abbrev pub invariant-loop-batch : goal.invariant-loop-batch
invariant-loop-batch l = l.lines.items ≡ flat_map over_line (over l.book.placements (changes_of (take l.batch-index l.batches)))
