use Rattle.std.proofs.Common.{◌≡◌, ℕ, ◌<◌}
use Rattle.std.specs.BinaryHeap.{heap_len}
use Rattle.cspf_meet.specs.Labels.{IsWaiting}
use Rattle.cspf_meet.proofs.labels.Labels.next.Given as goal

abbrev pub invariant-loop-key : goal.invariant-loop-key
invariant-loop-key l = record { ranks : l.self.ranks ≡ l.fn.self.ranks; left : (v : ℕ) → v < 1024 → IsWaiting l.fn.self v → IsWaiting l.self v }

abbrev pub decreases-loop-key : goal.decreases-loop-key
decreases-loop-key l = heap_len l.self.heap
