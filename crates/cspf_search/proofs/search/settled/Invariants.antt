use Rattle.std.proofs.Common.{◌*◌, ◌-◌, ◌≤◌, length}
use Rattle.cspf_search.specs.Settled.{AreSettled}
use Rattle.cspf_search.specs.Arena.{AreNodes, labels_of}
use Rattle.cspf_search.specs.ForwardStars.{AreForwardStars, AreStateMarks}
use Rattle.cspf_search.specs.RoundSteps.{AreLows}
use Rattle.cspf_search.proofs.search.settled.Given as goal

abbrev pub invariant-loop-node : goal.invariant-loop-node
invariant-loop-node l = record {
  arena : AreNodes l.nodes.items;
  few : length l.nodes.items ≤ l.query.legs * 1024;
  settled : AreSettled l.query.table.now l.query.request.now (labels_of l.nodes.items);
  stars : AreForwardStars l.query.table.now l.nodes.items l.stars.items;
  lows : AreLows l.query.table.now l.query.request.now l.nodes.items l.lows.items;
  marks : AreStateMarks l.query.table.now l.query.request.now l.nodes.items l.marks.items;
}

abbrev pub decreases-loop-node : goal.decreases-loop-node
decreases-loop-node l = l.query.legs * 1024 - length l.nodes.items
