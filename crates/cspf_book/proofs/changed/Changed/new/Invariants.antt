use Rattle.std.proofs.Common.{take}
use Rattle.cspf_book.specs.ByKey.{IsByKey}
use Rattle.cspf_book.proofs.changed.Changed.new.Given as goal

abbrev pub invariant-loop-change : goal.invariant-loop-change
invariant-loop-change l = IsByKey l.last (take l.change-index l.changes)
