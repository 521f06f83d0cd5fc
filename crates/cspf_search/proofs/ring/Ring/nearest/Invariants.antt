use Rattle.std.proofs.Common.{◌≡◌}
use Rattle.std.specs.BinaryHeap.{heap_len}
use Rattle.cspf_search.proofs.ring.Ring.nearest.Given as goal

abbrev pub invariant-loop-ahead : goal.invariant-loop-ahead
invariant-loop-ahead l = record { bounds : l.self.near ≡ l.fn.self.near; marks : l.self.done ≡ l.fn.self.done }

abbrev pub decreases-loop-ahead : goal.decreases-loop-ahead
decreases-loop-ahead l = heap_len l.self.heap
