use Rattle.std.proofs.Common.{◌≡◌, take}
use Rattle.cspf_model.specs.Changes.{AreLawful, database_after}
use Rattle.cspf_db.proofs.replay.replay_into.Given as goal

abbrev pub invariant-loop-batch : goal.invariant-loop-batch
invariant-loop-batch l = record {
  table : l.table ≡ database_after (take l.batch-index l.batches);
  lawful : AreLawful (take l.batch-index l.batches);
}
