use Rattle.std.proofs.Common.{◌+◌, ◌%◌, ◌≤◌}
use Rattle.std.specs.BinaryHeap.{heap_items, heap_len}
use Rattle.cspf_search.specs.Frontier.{AreLabels, CrossesUpTo}
use Rattle.cspf_search.proofs.frontier.expand.Given as goal

abbrev pub invariant-loop-row : goal.invariant-loop-row
invariant-loop-row l = record {
  labels : AreLabels l.query.table.now l.query.request.now l.fn.nodes (CrossesUpTo l.query.table.now l.query.request.now l.fn.nodes l.at (l.state % 1024) l.row) l.goal l.labels (heap_items l.heap);
  few : heap_len l.heap ≤ heap_len l.fn.heap + 1 + l.row;
}
