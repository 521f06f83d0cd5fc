use Rattle.std.proofs.Common.{◌≤◌, take}
use Rattle.std.specs.BinaryHeap.{IsHeap, heap_items, heap_len}
use Rattle.std.specs.List.{Contains}
use Rattle.cspf_search.specs.Frontier.{HeapKey, heap_key_cmp}
use Rattle.cspf_search.proofs.labels.drop_closed.Given as goal

abbrev pub invariant-loop-key : goal.invariant-loop-key
invariant-loop-key l = record {
  ordered : IsHeap heap_key_cmp (heap_items l.left);
  kept : (key : HeapKey) → Contains (take l.key-index l.key-items) key → l.floor ≤ key.0.1 → Contains (heap_items l.left) key;
  only : (key : HeapKey) → Contains (heap_items l.left) key → Contains l.key-items key;
  few : heap_len l.left ≤ l.key-index;
}
