use Rattle.std.proofs.Common.{◌≡◌, ◌++◌, map, take, drop, slice_index}
use Rattle.cspf_columns.proofs.ends.move_ends.Given as goal

abbrev pub invariant-loop-end : goal.invariant-loop-end
invariant-loop-end l =
    l.end-items ≡ map (λ e. slice_index l.places e) (take l.end-index l.fn.ends.items) ++ drop l.end-index l.fn.ends.items
