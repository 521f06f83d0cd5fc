use Rattle.std.proofs.Common.{◌≡◌, ◌++◌, drop, map, take}
use Rattle.cspf_columns.specs.Reverses.{index_behind}
use Rattle.cspf_columns.proofs.reverses.move_behind.Given as goal

abbrev pub invariant-loop-reverse : goal.invariant-loop-reverse
invariant-loop-reverse l = l.reverses ≡ map (index_behind l.at) (take l.reverse-index l.fn.reverses) ++ drop l.reverse-index l.fn.reverses
