use Rattle.std.proofs.Common.{◌≡◌}
use Rattle.std.specs.BinaryHeap.{heap_len}
use Rattle.cspf_search.proofs.tree_ring.TreeRing.nearest.Given as goal

abbrev pub invariant-loop-at : goal.invariant-loop-at
invariant-loop-at l = record { bounds : l.self.near ≡ l.fn.self.near; counts : l.self.links ≡ l.fn.self.links; marks : l.self.done ≡ l.fn.self.done }

abbrev pub decreases-loop-at : goal.decreases-loop-at
decreases-loop-at l = heap_len l.self.heap
