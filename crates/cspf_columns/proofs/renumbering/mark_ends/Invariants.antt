use Rattle.std.proofs.Common.{◌≡◌, ℕ, ◌<◌, false, take, length, nat_eq}
use Rattle.std.specs.List.{list_any, slice_index_or}
use Rattle.cspf_columns.proofs.renumbering.mark_ends.Given as goal

abbrev pub invariant-loop-end : goal.invariant-loop-end
invariant-loop-end l =
    (at : ℕ) → at < length l.fn.marked → slice_index_or l.marked at false ≡ list_any (λ end. nat_eq end at) (take l.end-index l.ends)
