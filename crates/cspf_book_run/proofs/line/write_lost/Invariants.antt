use Rattle.std.proofs.Common.{◌≡◌, ◌++◌, take}
use Rattle.std.specs.List.{flat_map}
use Rattle.cspf_book_run.specs.BookLines.{lost_line}
use Rattle.cspf_book_run.proofs.line.write_lost.Given as goal

-- The `lost` lines of the ids before this index are written.
abbrev pub invariant-loop-id : goal.invariant-loop-id
invariant-loop-id l = l.lines.items ≡ l.fn.lines.items ++ flat_map lost_line (take l.id-index l.lost)
