use Rattle.std.proofs.Common.{◌≡◌, ◌++◌, take}
use Rattle.std.specs.List.{flat_map}
use Rattle.cspf_book_run.specs.BookLines.{over_line}
use Rattle.cspf_book_run.proofs.line.write_over.Given as goal

-- The `over` lines of the entries before this index are written.
abbrev pub invariant-loop-it : goal.invariant-loop-it
invariant-loop-it l = l.lines.items ≡ l.fn.lines.items ++ flat_map over_line (take l.it-index l.over)
