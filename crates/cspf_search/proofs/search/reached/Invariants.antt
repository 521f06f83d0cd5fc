use Rattle.std.proofs.Common.{◌+◌, ◌-◌, ◌*◌, ◌≤◌, length}
use Rattle.std.specs.BinaryHeap.{heap_items, heap_len}
use Rattle.cspf_search.proofs.Reached.{IsAsked, IsUnderWay}
use Rattle.cspf_search.proofs.search.reached.Given as goal

abbrev pub invariant-loop-at : goal.invariant-loop-at
invariant-loop-at l = record {
  asked : IsAsked l.query.table.now l.query.request.now l.query.legs l.from l.to l.goal;
  few : length l.nodes.items ≤ l.query.legs * 1024;
  under_way : IsUnderWay l.query.table.now l.query.request.now l.goal l.nodes.items l.labels.items (heap_items l.heap);
}

abbrev pub decreases-loop-at : goal.decreases-loop-at
decreases-loop-at l = (l.query.legs * 1024 - length l.nodes.items) * 20000 + heap_len l.heap
