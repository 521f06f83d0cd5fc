use Rattle.std.proofs.Common.{◌≤◌}
use Rattle.std.specs.BinaryHeap.{IsHeap, heap_items, heap_len}
use Rattle.std.specs.List.{All, Contains}
use Rattle.cspf_search.specs.Frontier.{HeapKey, heap_key_cmp, IsKey, IsLive}
use Rattle.cspf_search.proofs.labels.least.Given as goal

abbrev pub invariant-loop-key : goal.invariant-loop-key
invariant-loop-key l = record {
  ordered : IsHeap heap_key_cmp (heap_items l.heap);
  keyed : All (IsKey l.table l.request l.goal) (heap_items l.heap);
  live : (key : HeapKey) → Contains (heap_items l.fn.heap) key → IsLive l.goal l.labels key → Contains (heap_items l.heap) key;
  fewer : heap_len l.heap ≤ heap_len l.fn.heap;
}

abbrev pub decreases-loop-key : goal.decreases-loop-key
decreases-loop-key l = heap_len l.heap
