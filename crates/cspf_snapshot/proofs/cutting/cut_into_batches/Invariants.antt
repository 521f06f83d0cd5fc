use Rattle.std.proofs.Common.{◌≡◌, ◌≢◌, ◌++◌, [], length}
use Rattle.cspf_model.specs.Numbered.{AreNumberedFrom}
use Rattle.cspf_model.specs.Changes.{changes_of}
use Rattle.cspf_snapshot.specs.Snapshots.{AreFullButLast}
use Rattle.cspf_snapshot.proofs.FullBatches.{AreFull}
use Rattle.cspf_snapshot.proofs.cutting.cut_into_batches.Given as goal

abbrev pub invariant-loop-rest : goal.invariant-loop-rest
invariant-loop-rest l = record {
  all : changes_of l.batches.items ++ l.rest ≡ l.changes;
  number : l.number ≡ length l.batches.items;
  numbers : AreNumberedFrom 1 l.batches.items;
  full : AreFullButLast l.batches.items;
  whole : l.rest ≢ [] → AreFull l.batches.items;
}

abbrev pub decreases-loop-rest : goal.decreases-loop-rest
decreases-loop-rest l = length l.rest
