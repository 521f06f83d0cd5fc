use Rattle.std.proofs.Common.{◌≡◌, ◌++◌, drop, map, take}
use Rattle.cspf_columns.specs.Reverses.{index_before}
use Rattle.cspf_columns.proofs.reverses.move_before.Given as goal

abbrev pub invariant-loop-reverse : goal.invariant-loop-reverse
invariant-loop-reverse l = l.reverses ≡ map (index_before l.at) (take l.reverse-index l.fn.reverses) ++ drop l.reverse-index l.fn.reverses
